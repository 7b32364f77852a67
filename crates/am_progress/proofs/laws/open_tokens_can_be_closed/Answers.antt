use Rattle.am_progress.proofs.Tokens.{open_tokens_close}
use Rattle.am_progress.proofs.laws.open_tokens_can_be_closed.Goals as goal

pub returns : goal.returns
returns c = open_tokens_close
