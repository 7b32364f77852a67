use Rattle.std.proofs.Common.{take}
use Rattle.am_lanes.specs.Inside.{IsIndexOf}
use Rattle.am_lanes.proofs.lanes.index_of.Given as goal

abbrev pub invariant-loop-lane : goal.invariant-loop-lane
invariant-loop-lane l = IsIndexOf (take l.lane l.holders) l.index
