use Rattle.std.proofs.Common.{◌≡◌, ◌++◌, take, drop, map}
use Rattle.am_draw.specs.{kept_failing}
use Rattle.am_draw.proofs.failing.end_failures.Given as goal

abbrev pub invariant-loop-lane : goal.invariant-loop-lane
invariant-loop-lane l = l.lane-items ≡ map (kept_failing l.negative l.world.kernel) (take l.lane-index l.fn.lanes.items) ++ drop l.lane-index l.fn.lanes.items
