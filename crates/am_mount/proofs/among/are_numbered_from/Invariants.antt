use Rattle.std.proofs.Common.{drop}
use Rattle.am_mount.specs.Near.{AreNumberedFrom}
use Rattle.am_mount.proofs.among.are_numbered_from.Given as goal

abbrev pub invariant-loop-mount : goal.invariant-loop-mount
invariant-loop-mount l = AreNumberedFrom l.next (drop l.mount-index l.fn.mounts) → AreNumberedFrom l.fn.first l.fn.mounts
