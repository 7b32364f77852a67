use Rattle.std.proofs.Common.{List, ℕ, subst}
use Rattle.std.proofs.lemmas.Result.{err_from_is_err_and, IfErr-weaker, IfOk-weaker}
use Rattle.am_script.specs.{TakesLine, StopsAtLine}
use Rattle.am_script.proofs.ReadingLemmas.{last_stops, all_played, all_stopped}
use Rattle.am_script.proofs.reading.Reading.end.Goals as goal

pub returns-in_err-take_line-clause-err : goal.returns-in_err-take_line-clause-err
returns-in_err-take_line-clause-err g c =
    let form = g.M.Manner.writes c.args.manner.now in
    let contents = g.W.Write.contents in
    let p = err_from_is_err_and c.from_residual.result c.from_residual.ensures.1 in
    let fault = c.in_err-take_line.field-0.0 in
    rw (p.1, p.2) (last_stops form c.args.self.now (contents c.args.writer.now) (contents c.take_line.new.writer) fault
    (subst (λ (line : List ℕ). StopsAtLine form c.args.self.now.player line (contents c.args.writer.now) (contents c.take_line.new.writer) fault) c.as_slice.ensures.value c.in_err-take_line.ensures.err))

pub returns-clause-ok : goal.returns-clause-ok
returns-clause-ok g c =
    let form = g.M.Manner.writes c.args.manner.now in
    let contents = g.W.Write.contents in
    let takes = subst (λ (line : List ℕ). TakesLine form c.args.self.now.player c.take_line.new.self line (contents c.args.writer.now) (contents c.take_line.new.writer)) c.as_slice.ensures.value c.in_ok-take_line.ensures.ok in
    IfOk-weaker c.end.result _ _
    (λ summary ends. all_played form c.args.self.now c.take_line.new.self (contents c.args.writer.now) (contents c.take_line.new.writer) (contents c.end.new.writer) summary takes ends)
    c.end.ensures.ok

pub returns-clause-err : goal.returns-clause-err
returns-clause-err g c =
    let form = g.M.Manner.writes c.args.manner.now in
    let contents = g.W.Write.contents in
    let takes = subst (λ (line : List ℕ). TakesLine form c.args.self.now.player c.take_line.new.self line (contents c.args.writer.now) (contents c.take_line.new.writer)) c.as_slice.ensures.value c.in_ok-take_line.ensures.ok in
    IfErr-weaker c.end.result _ _
    (λ fault ends. all_stopped form c.args.self.now c.take_line.new.self (contents c.args.writer.now) (contents c.take_line.new.writer) (contents c.end.new.writer) fault takes ends)
    c.end.ensures.err
