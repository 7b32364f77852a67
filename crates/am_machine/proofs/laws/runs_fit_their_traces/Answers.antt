use Rattle.am_machine.proofs.Told.Runs.{runs_fit}
use Rattle.am_machine.proofs.laws.runs_fit_their_traces.Goals as goal

pub returns : goal.returns
returns c = runs_fit
