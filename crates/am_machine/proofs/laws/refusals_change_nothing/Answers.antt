use Rattle.am_machine.proofs.Refusals.{refusals_change}
use Rattle.am_machine.proofs.laws.refusals_change_nothing.Goals as goal

pub returns : goal.returns
returns c = refusals_change
