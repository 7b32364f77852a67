use Rattle.std.proofs.Common.{◌++◌, take, arith}
use Rattle.std.proofs.lemmas.Result.{err_from_is_err_and, on_ok_weaker, IfErr-weaker}
use Rattle.am_script.proofs.ReadingLemmas.{consumes_more, kept}
use Rattle.am_serve.proofs.ReadingLemmas.{serves_all, stops_at_end, stops_within, breaks_off}
use Rattle.am_serve.proofs.reading.Reading.play.Goals as goal

pub returns-in-Some-eq0-clause-ok : goal.returns-in-Some-eq0-clause-ok
returns-in-Some-eq0-clause-ok g c =
    let contents = g.W.Write.contents in
    let remaining = g.R.Read.remaining in
    let so = c.loop.invariant in
    let read = c.in-Some-eq0.ensures in
    on_ok_weaker c.end.result
    (λ ends. serves_all c.loop.self (remaining c.args.reader.now) (remaining c.loop.reader) (remaining c.read_once.new.reader) (contents c.args.writer.now) (contents c.loop.writer) (contents c.end.new.writer) so.text c.read_once.new.buffer c.in-Some-eq0.field-0 c.in-Some-eq0.field-0-test so.read read.bytes read.end so.stands ends)
    c.end.ensures.ok

pub returns-in-Some-eq0-clause-err : goal.returns-in-Some-eq0-clause-err
returns-in-Some-eq0-clause-err g c =
    let contents = g.W.Write.contents in
    let remaining = g.R.Read.remaining in
    let so = c.loop.invariant in
    let read = c.in-Some-eq0.ensures in
    IfErr-weaker c.end.result _ _
    (λ fault loses. stops_at_end c.loop.self (remaining c.args.reader.now) (remaining c.loop.reader) (remaining c.read_once.new.reader) (contents c.args.writer.now) (contents c.loop.writer) (contents c.end.new.writer) so.text c.read_once.new.buffer c.in-Some-eq0.field-0 fault c.in-Some-eq0.field-0-test so.read read.bytes so.stands loses)
    c.end.ensures.err

pub returns-in_err-take_bytes-in-Some-clause-err : goal.returns-in_err-take_bytes-in-Some-clause-err
returns-in_err-take_bytes-in-Some-clause-err g c =
    let contents = g.W.Write.contents in
    let remaining = g.R.Read.remaining in
    let so = c.loop.invariant in
    let p = err_from_is_err_and c.from_residual.result c.from_residual.ensures.1 in
    rw (p.1, p.2) (stops_within c.loop.self (remaining c.args.reader.now) (remaining c.loop.reader) (remaining c.read_once.new.reader) (contents c.args.writer.now) (contents c.loop.writer) (contents c.take_bytes.new.writer) so.text (take c.in-Some.n c.read_once.new.buffer) c.in_err-take_bytes-in-Some.field-0.0
    so.read c.in-Some.ensures.bytes so.stands c.in_err-take_bytes-in-Some.ensures.err)

pub returns-in-None-clause-err : goal.returns-in-None-clause-err
returns-in-None-clause-err g c =
    let contents = g.W.Write.contents in
    let remaining = g.R.Read.remaining in
    let so = c.loop.invariant in
    breaks_off c.loop.self (remaining c.args.reader.now) (remaining c.loop.reader) (remaining c.read_once.new.reader) (contents c.args.writer.now) (contents c.loop.writer) so.text c.broken.result so.read c.in-None.ensures.kept so.stands c.broken.ensures

pub loop-preserved : goal.loop-preserved
loop-preserved g c =
    let remaining = g.R.Read.remaining in
    let so = c.loop.invariant in
    let done = c.in_ok-take_bytes-in-Some.ensures in
    record {
      text = so.text ++ take c.in-Some.n c.read_once.new.buffer;
      read = consumes_more (remaining c.args.reader.now) (remaining c.loop.reader) (remaining c.read_once.new.reader) so.text (take c.in-Some.n c.read_once.new.buffer) so.read c.in-Some.ensures.bytes;
      stands = done.ok so.text (g.W.Write.contents c.args.writer.now) so.stands;
      number = omega (arith, so.number, done.number, c.in-Some.ensures.few);
      few = done.few;
    }

pub returns-clause-err : goal.returns-clause-err
returns-clause-err g c =
    let contents = g.W.Write.contents in
    let remaining = g.R.Read.remaining in
    let so = c.loop.invariant in
    breaks_off c.loop.self (remaining c.args.reader.now) (remaining c.loop.reader) (remaining c.loop.reader) (contents c.args.writer.now) (contents c.loop.writer) so.text c.broken-2.result so.read (kept (remaining c.loop.reader)) so.stands c.broken-2.ensures
