use Rattle.std.proofs.Common.{◌≡◌, take}
use Rattle.std.specs.Prelude.{map}
use Rattle.am_group.specs.{at_rows, under_master}
use Rattle.am_group.proofs.lifting.set_masters.Given as goal

abbrev pub invariant-loop-mount : goal.invariant-loop-mount
invariant-loop-mount l =
    l.members.rows ≡ map (at_rows (under_master l.fn.lift.master) (take l.mount-index l.fn.mounts)) l.fn.members.rows
