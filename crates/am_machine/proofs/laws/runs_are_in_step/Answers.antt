use Rattle.am_machine.proofs.InStep.Runs.{runs_in_step}
use Rattle.am_machine.proofs.laws.runs_are_in_step.Goals as goal

pub returns : goal.returns
returns c = runs_in_step
