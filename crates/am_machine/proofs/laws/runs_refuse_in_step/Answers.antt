use Rattle.am_machine.proofs.InStep.Runs.{runs_refuse}
use Rattle.am_machine.proofs.laws.runs_refuse_in_step.Goals as goal

pub returns : goal.returns
returns c = runs_refuse
