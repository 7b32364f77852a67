use Rattle.std.proofs.Common.{◌≡◌, take}
use Rattle.std.specs.Prelude.{map}
use Rattle.am_group.specs.{lift_of}
use Rattle.am_group.proofs.groups.Groups.lifts.Given as goal

abbrev pub invariant-loop-group : goal.invariant-loop-group
invariant-loop-group l = l.lifts.items ≡ map (lift_of l.fn.lost l.fn.self) (take l.group-index l.fn.lost)
