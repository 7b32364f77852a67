use Rattle.std.proofs.lemmas.Result.{err_from_is_err_and, IfErr-weaker}
use Rattle.am_script.proofs.ReadingLemmas.{break_stops, all_broken}
use Rattle.am_script.proofs.reading.Reading.break_off.Goals as goal

pub returns-in_err-take_line-clause-err : goal.returns-in_err-take_line-clause-err
returns-in_err-take_line-clause-err g c =
    let form = g.M.Manner.writes c.args.manner.now in
    let p = err_from_is_err_and c.from_residual.result c.from_residual.ensures.1 in
    rw (p.1, p.2) (break_stops form c.args.self.now _ _ c.in_err-take_line.field-0.0 c.in_err-take_line.ensures.err)

pub returns-clause-err : goal.returns-clause-err
returns-clause-err g c =
    let form = g.M.Manner.writes c.args.manner.now in
    let contents = g.W.Write.contents in
    IfErr-weaker c.end.result _ _
    (λ fault ends. all_broken form c.args.self.now c.take_line.new.self (contents c.args.writer.now) (contents c.take_line.new.writer) (contents c.end.new.writer) fault c.in_ok-take_line.ensures.ok ends)
    c.end.ensures.err
