use Rattle.am_world.specs.Capacity.{state_of}
use Rattle.am_session.proofs.AskedLemmas.{asked_many}
use Rattle.am_session.proofs.played.answer_event.Goals as goal

pub returns-in-Some-clause-answered : goal.returns-in-Some-clause-answered
returns-in-Some-clause-answered c =
    asked_many (state_of c.args.world.now) c.args.line.now _ c.in-Some._rest.now (rw c.in-Some.is at c.cut_at_line_feed.ensures.cut)
