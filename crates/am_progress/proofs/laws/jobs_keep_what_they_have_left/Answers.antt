use Rattle.am_progress.proofs.Others.{jobs_stay}
use Rattle.am_progress.proofs.laws.jobs_keep_what_they_have_left.Goals as goal

pub returns : goal.returns
returns c = jobs_stay
