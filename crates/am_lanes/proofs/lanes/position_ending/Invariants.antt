use Rattle.am_lanes.specs.Bars.{NoneEnds}
use Rattle.am_lanes.proofs.lanes.position_ending.Given as goal

abbrev pub invariant-loop-lane : goal.invariant-loop-lane
invariant-loop-lane l = NoneEnds l.ending l.from l.lane l.holders
