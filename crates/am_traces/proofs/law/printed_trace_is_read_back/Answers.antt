use Rattle.am_traces.proofs.PrintedLemmas.{printed_says}
use Rattle.am_traces.proofs.law.printed_trace_is_read_back.Goals as goal

pub returns : goal.returns
returns c = printed_says
