use Rattle.am_progress.proofs.Comings.{come_and_go}
use Rattle.am_progress.proofs.laws.mounts_come_and_go.Goals as goal

pub returns : goal.returns
returns c = come_and_go
