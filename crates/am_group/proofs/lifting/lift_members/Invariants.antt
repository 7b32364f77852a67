use Rattle.std.proofs.Common.{◌≡◌}
use Rattle.std.specs.Prelude.{map}
use Rattle.am_names.specs.{MemberRow}
use Rattle.am_group.specs.{under_master}
use Rattle.am_group.proofs.LiftingLemmas.{lifts_first}
use Rattle.am_group.proofs.lifting.lift_members.Given as goal

abbrev pub invariant-loop-lift : goal.invariant-loop-lift
invariant-loop-lift l =
    (l.members.rows ≡ map (lifts_first (λ (row : MemberRow). row.master) under_master l.fn.lifts l.lift-index) l.fn.members.rows)
