use Rattle.am_machine.proofs.Refusals.{moments}
use Rattle.am_machine.proofs.laws.moments_rise.Goals as goal

pub returns : goal.returns
returns c = moments
