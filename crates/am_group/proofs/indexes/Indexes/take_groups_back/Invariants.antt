use Rattle.std.proofs.Common.{◌≤◌, take}
use Rattle.am_group.specs.{GroupsAreAdded, Indexes}
use Rattle.am_group.proofs.indexes.Indexes.take_groups_back.Given as goal

abbrev pub invariant-loop-left : goal.invariant-loop-left
invariant-loop-left l =
    (l.left ≤ l.fn.count) ×
    ((old : Indexes) → GroupsAreAdded (take l.fn.count l.fn.rows) old l.fn.self → GroupsAreAdded (take l.left l.fn.rows) old l.self)

abbrev pub decreases-loop-left : goal.decreases-loop-left
decreases-loop-left l = l.left
