use Rattle.std.proofs.Common.{◌≡◌, take}
use Rattle.std.specs.Prelude.{map}
use Rattle.am_group.specs.{at_groups, group_under}
use Rattle.am_group.proofs.lifting.set_group_masters.Given as goal

abbrev pub invariant-loop-group : goal.invariant-loop-group
invariant-loop-group l =
    l.groups.rows ≡ map (at_groups (group_under l.fn.lift.master) (take l.group-index l.fn.numbers)) l.fn.groups.rows
