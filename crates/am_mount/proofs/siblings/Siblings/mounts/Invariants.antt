use Rattle.std.proofs.Common.{◌≡◌, take}
use Rattle.am_mount.specs.Siblings.{mounts_of}
use Rattle.am_mount.proofs.siblings.Siblings.mounts.Given as goal

abbrev pub invariant-loop-child : goal.invariant-loop-child
invariant-loop-child l = l.mounts.items ≡ mounts_of (take l.child-index l.fn.self.rows)
