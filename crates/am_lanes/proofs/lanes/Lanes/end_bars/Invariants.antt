use Rattle.std.proofs.Common.{◌-◌, length}
use Rattle.am_lanes.proofs.LaneLemmas.{HaveEnded}
use Rattle.am_lanes.proofs.lanes.Lanes.end_bars.Given as goal

abbrev pub invariant-loop-lane : goal.invariant-loop-lane
invariant-loop-lane l = HaveEnded l.ending l.fn.self l.self l.from

abbrev pub decreases-loop-lane : goal.decreases-loop-lane
decreases-loop-lane l = length l.fn.self - l.from
