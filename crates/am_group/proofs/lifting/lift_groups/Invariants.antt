use Rattle.std.proofs.Common.{◌≡◌}
use Rattle.std.specs.Prelude.{map}
use Rattle.am_names.specs.{GroupRow}
use Rattle.am_group.specs.{group_under}
use Rattle.am_group.proofs.LiftingLemmas.{lifts_first}
use Rattle.am_group.proofs.lifting.lift_groups.Given as goal

abbrev pub invariant-loop-lift : goal.invariant-loop-lift
invariant-loop-lift l =
    (l.groups.rows ≡ map (lifts_first (λ (row : GroupRow). row.master) group_under l.fn.lifts l.lift-index) l.fn.groups.rows)
