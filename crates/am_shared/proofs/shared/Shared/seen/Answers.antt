use Rattle.std.proofs.Common.{◌≡◌, true, subst}
use Rattle.am_shared.specs.{keeps_seen}
use Rattle.am_shared.specs.Sharing.{Sharing}
use Rattle.am_shared.proofs.ApplyLemmas.{all_kept}
use Rattle.am_shared.proofs.shared.Shared.seen.Goals as goal

pub returns-clause-whole : goal.returns-clause-whole
returns-clause-whole c =
    subst (λ (s : Sharing). keeps_seen s.keep ≡ true → c.trace.result.now ≡ s.world.trace) c.self.view_is
    (λ all. all_kept c.self.inside.parts.world c.trace.result.now c.trace.ensures.trace (c.self.invariant.0.whole all))
