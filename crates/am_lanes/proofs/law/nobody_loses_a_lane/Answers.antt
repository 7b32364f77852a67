use Rattle.am_lanes.proofs.ChangeLemmas.{nobody_loses}
use Rattle.am_lanes.proofs.law.nobody_loses_a_lane.Goals as goal

pub returns : goal.returns
returns c = nobody_loses
