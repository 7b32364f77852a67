use Rattle.std.proofs.Common.{take}
use Rattle.std.specs.List.{flat_map}
use Rattle.am_script.specs.{Puts}
use Rattle.am_mountinfo.specs.{failure_note}
use Rattle.am_mountinfo.proofs.lasting.put_failures.Given as goal

abbrev pub invariant-loop-index : goal.invariant-loop-index
invariant-loop-index g l = Puts l.fn.output l.output (flat_map failure_note (take l.index l.failures.rows)) (g.W.Write.contents l.fn.writer) (g.W.Write.contents l.writer)
