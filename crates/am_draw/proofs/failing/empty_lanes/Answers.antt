use Rattle.std.proofs.Common.{◌<◌, List, Option, length, subst}
use Rattle.std.proofs.lemmas.List.Edits.{map_over_more}
use Rattle.am_draw.specs.{Failing}
use Rattle.am_draw.proofs.FailingLemmas.{emptied}
use Rattle.am_draw.proofs.failing.empty_lanes.Goals as goal

pub loop-lane-preserved : goal.loop-lane-preserved
loop-lane-preserved c =
    map_over_more emptied c.args.lanes.now.items c.loop-lane.lane-items c.loop-lane.lane-index c.lane-item.result
    (subst (λ (xs : List (Option Failing)). c.loop-lane.lane-index < length xs) c.deref_mut-lane-items.ensures.value c.loop-lane-test.true)
    c.loop-lane.invariant c.lane-item.is
