use Rattle.std.proofs.Common.{take}
use Rattle.am_mountinfo.specs.{AreResidents}
use Rattle.am_mountinfo.proofs.residents.Residents.of.Given as goal

abbrev pub invariant-loop-row : goal.invariant-loop-row
invariant-loop-row l = AreResidents l.found (take l.row-index l.rows)
