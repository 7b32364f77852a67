use Rattle.am_progress.proofs.Acts.{never_refused}
use Rattle.am_progress.proofs.laws.next_acts_are_never_refused.Goals as goal

pub returns : goal.returns
returns c = never_refused
