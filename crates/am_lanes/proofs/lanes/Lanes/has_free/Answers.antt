use Rattle.std.proofs.Common.{ap, ◌∙◌, is_some}
use Rattle.am_lanes.specs.{is_free}
use Rattle.am_lanes.proofs.LaneLemmas.{any_found}
use Rattle.am_lanes.proofs.lanes.Lanes.has_free.Goals as goal

pub returns : goal.returns
returns c = c.is_some.ensures ∙ ap is_some c.first_free.ensures ∙ any_found (λ lane. is_free lane) c.args.self.now
