use Rattle.am_lanes.proofs.ToldLemmas.{all_told}
use Rattle.am_lanes.proofs.law.bars_are_told.Goals as goal

pub returns : goal.returns
returns c = all_told
