use Rattle.std.proofs.Common.{◌≤◌, length, take}
use Rattle.am_group.specs.{GroupsAreAdded}
use Rattle.am_group.proofs.indexes.Indexes.add_groups.Given as goal

abbrev pub invariant-loop-at : goal.invariant-loop-at
invariant-loop-at l = (l.at ≤ length l.fn.rows) × GroupsAreAdded (take l.at l.fn.rows) l.fn.self l.self
