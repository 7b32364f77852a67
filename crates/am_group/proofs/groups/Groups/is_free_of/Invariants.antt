use Rattle.std.proofs.Common.{◌≡◌, true, take}
use Rattle.std.specs.List.{list_all}
use Rattle.am_group.specs.{has_none_left}
use Rattle.am_group.proofs.groups.Groups.is_free_of.Given as goal

abbrev pub invariant-loop-group : goal.invariant-loop-group
invariant-loop-group l = list_all (has_none_left l.fn.gone l.fn.lost l.fn.self) (take l.group-index l.fn.lost) ≡ true
