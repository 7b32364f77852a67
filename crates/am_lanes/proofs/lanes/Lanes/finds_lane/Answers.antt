use Rattle.std.proofs.Common.{sym, ◌∙◌}
use Rattle.am_lanes.proofs.LaneLemmas.{taken_own, taken_free}
use Rattle.am_lanes.proofs.lanes.Lanes.finds_lane.Goals as goal

pub returns-then-has_lane : goal.returns-then-has_lane
returns-then-has_lane c =
    c.if-has_lane.true ∙ sym (taken_own c.args.number c.args.self.now (sym c.has_lane-has_lane.ensures ∙ c.if-has_lane.true))

pub returns-else-has_lane : goal.returns-else-has_lane
returns-else-has_lane c =
    c.has_free.ensures ∙ taken_free c.args.number c.args.self.now (sym c.has_lane-has_lane.ensures ∙ c.if-has_lane.false)
