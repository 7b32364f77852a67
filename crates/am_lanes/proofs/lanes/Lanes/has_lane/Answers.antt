use Rattle.std.proofs.Common.{ap, ◌∙◌, is_some}
use Rattle.am_lanes.specs.{is_of}
use Rattle.am_lanes.proofs.LaneLemmas.{any_found}
use Rattle.am_lanes.proofs.lanes.Lanes.has_lane.Goals as goal

pub returns : goal.returns
returns c = c.is_some.ensures ∙ ap is_some c.own_lane.ensures ∙ any_found (λ lane. is_of c.args.number lane) c.args.self.now
