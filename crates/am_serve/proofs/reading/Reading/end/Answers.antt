use Rattle.std.proofs.lemmas.Result.{on_ok_weaker, IfErr-weaker}
use Rattle.am_serve.proofs.ReadingLemmas.{ends_last, ends_none, loses_last}
use Rattle.am_serve.proofs.reading.Reading.end.Goals as goal

pub returns-then-is_empty-clause-ok : goal.returns-then-is_empty-clause-ok
returns-then-is_empty-clause-ok g c =
    ends_none c.args.self.now (g.W.Write.contents c.args.writer.now) (c.is_empty.ensures.empty c.if-is_empty.true)

pub returns-clause-ok : goal.returns-clause-ok
returns-clause-ok g c =
    let contents = g.W.Write.contents in
    on_ok_weaker c.answer.result
    (λ answers. ends_last c.args.self.now c.answer.new.self (contents c.args.writer.now) (contents c.answer.new.writer) (c.is_empty.ensures.some c.if-is_empty.false) answers)
    c.answer.ensures.ok

pub returns-clause-err : goal.returns-clause-err
returns-clause-err g c =
    let contents = g.W.Write.contents in
    IfErr-weaker c.answer.result _ _
    (λ fault loses. loses_last c.args.self.now (contents c.args.writer.now) (contents c.answer.new.writer) fault (c.is_empty.ensures.some c.if-is_empty.false) loses)
    c.answer.ensures.err
