use Rattle.std.proofs.Common.{sym, ◌∙◌}
use Rattle.am_wait.proofs.AlikeLemmas.{same_waits, each_has_same}
use Rattle.am_wait.proofs.waits.Waits.has_same_waits.Goals as goal

pub returns-then-are_same_waits : goal.returns-then-are_same_waits
returns-then-are_same_waits c =
    let i = c.self.inside in
    let j = c.other.inside in
    rw (← c.self.view_is, ← c.other.view_is) (
      λ h. same_waits i j c.self.invariant c.other.invariant (c.are_same_waits.ensures.0 c.if-are_same_waits.true) (c.are_same_waits-then-are_same_waits.ensures.0 h),
      λ h. c.are_same_waits-then-are_same_waits.ensures.1 (each_has_same j i c.other.invariant c.self.invariant (sym h)),
    )

pub returns-else-are_same_waits : goal.returns-else-are_same_waits
returns-else-are_same_waits c =
    let i = c.self.inside in
    let j = c.other.inside in
    rw (← c.self.view_is, ← c.other.view_is) (
      λ h. absurd (cc (sym h ∙ c.if-are_same_waits.false)),
      λ h. c.are_same_waits.ensures.1 (each_has_same i j c.self.invariant c.other.invariant h),
    )
