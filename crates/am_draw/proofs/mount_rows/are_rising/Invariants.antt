use Rattle.std.proofs.Common.{drop}
use Rattle.am_mount.specs.{IsRising, RiseFrom}
use Rattle.am_draw.proofs.mount_rows.are_rising.Given as goal

abbrev pub invariant-loop-row : goal.invariant-loop-row
invariant-loop-row l = RiseFrom l.low (drop l.row-index l.rows) → IsRising l.rows
