use Rattle.am_machine.proofs.StepTheorems.{steps_add_none}
use Rattle.am_machine.proofs.laws.steps_add_no_receivers.Goals as goal

pub returns : goal.returns
returns c = steps_add_none
