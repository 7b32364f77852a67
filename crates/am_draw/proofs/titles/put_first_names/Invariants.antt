use Rattle.am_script.specs.{Puts}
use Rattle.am_draw.specs.{lane_names}
use Rattle.am_draw.proofs.titles.put_first_names.Given as goal

abbrev pub invariant-loop-lane : goal.invariant-loop-lane
invariant-loop-lane g l = Puts l.fn.output l.output (lane_names l.kind l.first l.lanes l.lane) (g.W.Write.contents l.fn.writer) (g.W.Write.contents l.writer)
