use Rattle.am_draw.proofs.ChangeLemmas as lanes
use Rattle.am_draw.proofs.law.nobody_loses_a_bar.Goals as goal

pub returns : goal.returns
returns c = lanes.nobody_loses_a_bar
