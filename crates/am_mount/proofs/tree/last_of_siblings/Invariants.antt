use Rattle.std.proofs.Common.{◌≡◌, ◌≤◌, length, take}
use Rattle.std.specs.Prelude.{filter}
use Rattle.am_names.specs.{names_of}
use Rattle.am_mount.specs.{stands_at, last_of}
use Rattle.am_mount.specs.Siblings.{placed_of}
use Rattle.am_mount.proofs.tree.last_of_siblings.Given as goal

abbrev pub invariant-loop-left : goal.invariant-loop-left
invariant-loop-left l =
    (l.left ≤ length l.fn.siblings.rows) ×
    (last_of (filter (λ m. stands_at l.fn.rows l.fn.parent (names_of l.fn.place) m) (placed_of l.fn.siblings.rows l.fn.bucket)) ≡
    last_of (filter (λ m. stands_at l.fn.rows l.fn.parent (names_of l.fn.place) m) (placed_of (take l.left l.fn.siblings.rows) l.fn.bucket)))

abbrev pub decreases-loop-left : goal.decreases-loop-left
decreases-loop-left l = l.left
