use Rattle.am_progress.proofs.Walkers.{walkers_can_go_on}
use Rattle.am_progress.proofs.laws.waiting_walkers_can_go_on.Goals as goal

pub returns : goal.returns
returns c = walkers_can_go_on
