use Rattle.std.proofs.Common.{◌∙◌, ap, subst, sym}
use Rattle.am_shared.specs.{IsKept, all_taken, keeps_events, left_of, sharing_of}
use Rattle.am_shared.specs.Sharing.{Sharing}
use Rattle.am_shared.proofs.ApplyLemmas.{taken_kept}
use Rattle.am_shared.proofs.shared.Shared.take_history.Goals as goal

pub invariant_of-self : goal.invariant_of-self
invariant_of-self c =
    let keep = ap (λ (s : Sharing). keeps_events s.keep) c.self.view_is ∙ c.requires in (
      subst (λ (s : Sharing). IsKept s) (sym c.take.ensures.taken)
          (taken_kept (sharing_of c.self.inside.parts) keep c.self.invariant.0),
      c.take.ensures.counted,
    )

pub returns-clause-entries : goal.returns-clause-entries
returns-clause-entries c = c.take.ensures.entries ∙ ap left_of c.self.view_is

pub returns-clause-taken : goal.returns-clause-taken
returns-clause-taken c = c.take.ensures.taken ∙ ap all_taken c.self.view_is
