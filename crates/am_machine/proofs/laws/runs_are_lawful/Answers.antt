use Rattle.am_machine.proofs.Consistent.{runs_lawful}
use Rattle.am_machine.proofs.laws.runs_are_lawful.Goals as goal

pub returns : goal.returns
returns c = runs_lawful
