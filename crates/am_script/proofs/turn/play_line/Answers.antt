use Rattle.am_script.proofs.LineAnswers.{turn_of_an_event}
use Rattle.am_script.proofs.turn.play_line.Goals as goal

pub returns-clause-ok : goal.returns-clause-ok
returns-clause-ok g c =
    turn_of_an_event _ _ _ c.in-Some.answer _ _ c.begin.new.self _ _ _ _ _ (rw c.in-Some.is at c.in_ok-answer.ensures)
    c.begin.ensures.settles c.begin.ensures.line c.put_answer.ensures c.is_refused.ensures
