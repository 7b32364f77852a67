use Rattle.am_progress.proofs.Others.{service_lasts}
use Rattle.am_progress.proofs.laws.service_lasts_until_its_end_is_seen.Goals as goal

pub returns : goal.returns
returns c = service_lasts
