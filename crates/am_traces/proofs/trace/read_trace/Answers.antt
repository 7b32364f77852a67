use Rattle.std.proofs.Common.{rules}
use Rattle.am_traces.proofs.TraceLemmas.{is_trace, one_trace, unread}
use Rattle.am_traces.proofs.trace.read_trace.Goals as goal

pub returns-clause-ok : goal.returns-clause-ok
returns-clause-ok c = search (rules, is_trace)

pub returns-clause-only : goal.returns-clause-only
returns-clause-only c = search (rules, one_trace)

pub returns-clause-err : goal.returns-clause-err
returns-clause-err c = search (rules, unread)
