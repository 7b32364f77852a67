use Rattle.std.proofs.Common.{◌≡◌, take}
use Rattle.std.specs.Prelude.{flat_map}
use Rattle.am_group.specs.{homed_at}
use Rattle.am_group.proofs.groups.Groups.homes.Given as goal

abbrev pub invariant-loop-group : goal.invariant-loop-group
invariant-loop-group l = l.found.items ≡ flat_map (homed_at l.fn.self) (take l.group-index l.fn.groups)
