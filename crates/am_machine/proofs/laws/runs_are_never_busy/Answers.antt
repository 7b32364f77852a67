use Rattle.am_machine.proofs.InStep.Runs.{runs_never_busy}
use Rattle.am_machine.proofs.laws.runs_are_never_busy.Goals as goal

pub returns : goal.returns
returns c = runs_never_busy
