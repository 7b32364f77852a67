use Rattle.am_traces.proofs.SoundLemmas.{line_says}
use Rattle.am_traces.proofs.BackLemmas.{line_back}
use Rattle.am_traces.proofs.law.line_is_read_as_it_says.Goals as goal

pub returns-clause-read : goal.returns-clause-read
returns-clause-read c = line_says

pub returns-clause-back : goal.returns-clause-back
returns-clause-back c = line_back
