use Rattle.am_world.specs.Capacity.{state_of}
use Rattle.am_explore.proofs.WorldLemmas.{lacks_decides}
use Rattle.am_explore.proofs.world_line.lacks.Goals as goal

pub returns : goal.returns
returns c = lacks_decides c.args.sought.now (state_of c.args.world.now) c.in_ok-has.has c.in_ok-has.ensures
