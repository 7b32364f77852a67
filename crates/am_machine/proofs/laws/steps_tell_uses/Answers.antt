use Rattle.am_machine.proofs.UsesSeen.{steps_tell}
use Rattle.am_machine.proofs.laws.steps_tell_uses.Goals as goal

pub returns : goal.returns
returns c = steps_tell
