use Rattle.std.proofs.Common.{◌≡◌, ◌++◌, take}
use Rattle.std.specs.Prelude.{filter, is_none}
use Rattle.am_group.specs.{group_of}
use Rattle.am_group.proofs.groups.Groups.add_home.Given as goal

abbrev pub invariant-loop-slave : goal.invariant-loop-slave
invariant-loop-slave l =
    l.found.items ≡ l.initial.found.items ++ filter (λ m. is_none (group_of l.fn.self m)) (take l.slave-index l.slave-items)
