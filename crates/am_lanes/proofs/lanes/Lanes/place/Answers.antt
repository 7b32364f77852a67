use Rattle.std.proofs.Common.{List, Option, sym, subst, ◌∙◌}
use Rattle.am_lanes.specs.{Holder}
use Rattle.am_lanes.specs.Inside.{IsOnce}
use Rattle.am_lanes.proofs.LaneLemmas.{only_there}
use Rattle.am_lanes.proofs.lanes.Lanes.place.Goals as goal

pub put-requires : goal.put-requires
put-requires c = λ l is.
    only_there c.args.self.now c.args.holder.number
    (subst (λ (xs : List (Option Holder)). IsOnce xs) c.self.view_is c.self.invariant.once) l is
    ∙ sym c.lane_for-lane.ensures
