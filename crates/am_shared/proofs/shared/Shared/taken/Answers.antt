use Rattle.std.proofs.Common.{◌∙◌, ◌≤◌, ap, arith, length, length-append, subst}
use Rattle.am_shared.specs.Sharing.{Sharing}
use Rattle.am_shared.proofs.shared.Shared.taken.Goals as goal

pub returns-clause-count : goal.returns-clause-count
returns-clause-count c = c.self.invariant.1.0 ∙ ap (λ (s : Sharing). s.taken) c.self.view_is

pub returns-clause-within : goal.returns-clause-within
returns-clause-within c =
    let parts = c.self.inside.parts in
    subst (λ (s : Sharing). s.taken ≤ length s.history) c.self.view_is
    (omega (arith, length-append parts.taken.items parts.history.items))
