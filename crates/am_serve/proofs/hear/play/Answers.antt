use Rattle.std.proofs.Common.{Err}
use Rattle.am_serve.proofs.hear.play.Goals as goal

pub returns-in-Err-clause-plays : goal.returns-in-Err-clause-plays
returns-in-Err-clause-plays c = record {
  next = c.take_line.new.session;
  went = Err c.in-Err.kind;
  takes = c.in-Err.ensures;
  leaves = c.no_event.ensures c.take_line.new.session;
}
