use Rattle.std.proofs.Common.{take}
use Rattle.am_script.specs.{Puts}
use Rattle.am_mountinfo.specs.{opens_text}
use Rattle.am_mountinfo.proofs.notes.put_opens.Given as goal

abbrev pub invariant-loop-row : goal.invariant-loop-row
invariant-loop-row g l = Puts l.fn.output l.output (opens_text l.world.kernel.waits (take l.row-index l.opens)) (g.W.Write.contents l.fn.writer) (g.W.Write.contents l.writer)
