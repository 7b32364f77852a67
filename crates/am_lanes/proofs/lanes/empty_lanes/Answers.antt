use Rattle.std.proofs.Common.{◌<◌, List, Option, length, subst}
use Rattle.std.proofs.lemmas.List.Edits.{map_over_more}
use Rattle.am_lanes.specs.{Holder}
use Rattle.am_lanes.proofs.LaneLemmas.{emptied}
use Rattle.am_lanes.proofs.lanes.empty_lanes.Goals as goal

pub loop-lane-preserved : goal.loop-lane-preserved
loop-lane-preserved c =
    map_over_more emptied c.args.holders.now.items c.loop-lane.lane-items c.loop-lane.lane-index c.lane-item.result
    (subst (λ (xs : List (Option Holder)). c.loop-lane.lane-index < length xs) c.deref_mut-lane-items.ensures.value c.loop-lane-test.true)
    c.loop-lane.invariant c.lane-item.is
