use Rattle.am_machine.proofs.StepTheorems.{steps_lawful}
use Rattle.am_machine.proofs.laws.steps_are_lawful.Goals as goal

pub returns : goal.returns
returns c = steps_lawful
