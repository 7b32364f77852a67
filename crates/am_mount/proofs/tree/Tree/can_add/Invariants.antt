use Rattle.std.proofs.Common.{◌↔◌, ◌++◌, drop}
use Rattle.am_mount.specs.{RiseFrom, IsRising, next_of}
use Rattle.am_mount.proofs.tree.Tree.can_add.Given as goal

abbrev pub invariant-loop-row : goal.invariant-loop-row
invariant-loop-row l = IsRising (l.fn.self ++ l.fn.rows) ↔ RiseFrom (next_of l.last) (drop l.row-index l.fn.rows)
