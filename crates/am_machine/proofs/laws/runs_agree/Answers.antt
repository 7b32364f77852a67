use Rattle.am_machine.proofs.Agreement.Runs.{runs_agree}
use Rattle.am_machine.proofs.laws.runs_agree.Goals as goal

pub returns : goal.returns
returns c = runs_agree
