use Rattle.am_script.specs.{Puts}
use Rattle.am_draw.specs.{failing_names}
use Rattle.am_draw.proofs.titles.put_failing_names.Given as goal

abbrev pub invariant-loop-lane : goal.invariant-loop-lane
invariant-loop-lane g l = Puts l.fn.output l.output (failing_names l.first l.lanes l.lane) (g.W.Write.contents l.fn.writer) (g.W.Write.contents l.writer)
