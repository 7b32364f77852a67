use Rattle.std.proofs.Common.{◌≡◌, ◌++◌, take}
use Rattle.std.specs.Prelude.{filter}
use Rattle.am_group.specs.{has_members}
use Rattle.am_group.proofs.groups.Groups.add_below.Given as goal

abbrev pub invariant-loop-below : goal.invariant-loop-below
invariant-loop-below l =
    l.pending.items ≡ l.fn.pending.items ++ filter (has_members l.fn.self.members) (take l.below-index l.below-items)
