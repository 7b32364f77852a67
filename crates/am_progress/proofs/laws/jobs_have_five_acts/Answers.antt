use Rattle.am_progress.proofs.Acts.{five_acts}
use Rattle.am_progress.proofs.laws.jobs_have_five_acts.Goals as goal

pub returns : goal.returns
returns c = five_acts
