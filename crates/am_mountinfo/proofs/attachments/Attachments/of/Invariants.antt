use Rattle.std.proofs.Common.{take}
use Rattle.am_mountinfo.specs.{AreAttachments}
use Rattle.am_mountinfo.proofs.attachments.Attachments.of.Given as goal

abbrev pub invariant-loop-row : goal.invariant-loop-row
invariant-loop-row l = AreAttachments l.found (take l.row-index l.rows)
