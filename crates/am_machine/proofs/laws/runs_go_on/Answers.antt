use Rattle.am_machine.proofs.StepTheorems.{run_goes_on}
use Rattle.am_machine.proofs.laws.runs_go_on.Goals as goal

pub returns : goal.returns
returns c = run_goes_on
