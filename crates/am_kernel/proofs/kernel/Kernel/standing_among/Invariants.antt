use Rattle.std.proofs.Common.{◌≡◌, take}
use Rattle.std.specs.List.{flat_map}
use Rattle.am_kernel.specs.{standing_mount}
use Rattle.am_kernel.proofs.kernel.Kernel.standing_among.Given as goal

abbrev pub invariant-loop-mount : goal.invariant-loop-mount
invariant-loop-mount l = l.standing.items ≡ flat_map (standing_mount l.fn.self l.fn.autofs) (take l.mount-index l.fn.mounts)
