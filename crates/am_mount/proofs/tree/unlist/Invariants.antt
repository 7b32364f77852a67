use Rattle.std.proofs.Common.{◌≤◌, length, drop}
use Rattle.std.specs.Prelude.{filter, not}
use Rattle.am_mount.specs.{AreIndexed}
use Rattle.am_names.specs.{is_among}
use Rattle.am_mount.proofs.tree.unlist.Given as goal

abbrev pub invariant-loop-left : goal.invariant-loop-left
invariant-loop-left l =
    (l.left ≤ length l.fn.gone) ×
    AreIndexed (filter (λ row. not (is_among (drop l.left l.fn.gone) row.mount)) l.fn.rows) l.indexes

abbrev pub decreases-loop-left : goal.decreases-loop-left
decreases-loop-left l = l.left
