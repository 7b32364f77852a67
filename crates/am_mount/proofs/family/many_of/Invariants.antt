use Rattle.std.proofs.Common.{◌≡◌, ℕ, take}
use Rattle.am_mount.specs.Index.{listed}
use Rattle.am_mount.specs.Siblings.{mounts_of, placed_of}
use Rattle.am_mount.proofs.family.many_of.Given as goal

abbrev pub invariant-loop-child : goal.invariant-loop-child
invariant-loop-child l =
    (l.several.mounts.rows ≡ mounts_of (take l.child-index l.fn.siblings.rows)) ×
    ((b : ℕ) → listed l.several.places b ≡ placed_of (take l.child-index l.fn.siblings.rows) b)
