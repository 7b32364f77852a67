use Rattle.am_draw.proofs.WorldBars as bars
use Rattle.am_draw.proofs.law.bars_tell_the_world.Goals as goal

pub returns : goal.returns
returns c = bars.bars_tell_the_world
