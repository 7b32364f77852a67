use Rattle.am_progress.proofs.Among.{close_among}
use Rattle.am_progress.proofs.laws.open_tokens_can_be_closed_among_others.Goals as goal

pub returns : goal.returns
returns c = close_among
