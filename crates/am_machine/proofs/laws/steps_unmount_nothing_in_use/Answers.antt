use Rattle.am_machine.proofs.InUse.{steps_free}
use Rattle.am_machine.proofs.laws.steps_unmount_nothing_in_use.Goals as goal

pub returns : goal.returns
returns c = steps_free
