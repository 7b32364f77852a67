use Rattle.std.proofs.Common.{take}
use Rattle.am_mountinfo.specs.{ArePaths}
use Rattle.am_mountinfo.proofs.paths.Paths.of.Given as goal

abbrev pub invariant-loop-row : goal.invariant-loop-row
invariant-loop-row l = ArePaths l.paths (take l.row-index l.rows)
