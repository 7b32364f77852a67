use Rattle.std.proofs.Common.{◌≤◌, ◌-◌, length, take}
use Rattle.am_script.specs.{Puts}
use Rattle.am_draw.specs.{lane_bars}
use Rattle.am_draw.proofs.stretch.put_lanes.Given as goal

abbrev pub invariant-loop-lane : goal.invariant-loop-lane
invariant-loop-lane g l = record {
  within : l.from ≤ length l.lanes;
  drawn : Puts l.fn.output l.output (lane_bars l.kind l.first l.ending l.until 0 (take l.from l.lanes)) (g.W.Write.contents l.fn.writer) (g.W.Write.contents l.writer);
}

abbrev pub decreases-loop-lane : goal.decreases-loop-lane
decreases-loop-lane g l = length l.lanes - l.from
