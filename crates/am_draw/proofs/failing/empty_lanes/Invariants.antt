use Rattle.std.proofs.Common.{◌≡◌, ◌++◌, take, drop, map, None}
use Rattle.am_draw.proofs.failing.empty_lanes.Given as goal

abbrev pub invariant-loop-lane : goal.invariant-loop-lane
invariant-loop-lane l = l.lane-items ≡ map (λ lane. None) (take l.lane-index l.fn.lanes.items) ++ drop l.lane-index l.fn.lanes.items
