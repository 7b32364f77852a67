use Rattle.std.proofs.Common.{◌++◌, take, arith}
use Rattle.std.proofs.lemmas.Result.{err_from_is_err_and, IfErr-weaker}
use Rattle.am_script.proofs.ReadingLemmas.{consumes_more, kept, stops_at_end, stops_within, breaks_off}
use Rattle.am_script.proofs.reading.Reading.play.Goals as goal

pub returns-in-Some-eq0-clause-err : goal.returns-in-Some-eq0-clause-err
returns-in-Some-eq0-clause-err g c =
    let form = g.M.Manner.writes c.args.manner.now in
    let contents = g.W.Write.contents in
    let remaining = g.R.Read.remaining in
    let so = c.loop.invariant in
    let read = c.in-Some-eq0.ensures in
    IfErr-weaker c.end.result _ _
    (λ fault stops. stops_at_end form c.loop.self (remaining c.args.reader.now) (remaining c.loop.reader) (remaining c.read_once.new.reader) (contents c.args.writer.now) (contents c.loop.writer) (contents c.end.new.writer) so.text c.read_once.new.buffer c.in-Some-eq0.field-0 fault c.in-Some-eq0.field-0-test so.read read.bytes read.end so.stands stops)
    c.end.ensures.err

pub returns-in_err-take_bytes-in-Some-clause-err : goal.returns-in_err-take_bytes-in-Some-clause-err
returns-in_err-take_bytes-in-Some-clause-err g c =
    let form = g.M.Manner.writes c.args.manner.now in
    let contents = g.W.Write.contents in
    let remaining = g.R.Read.remaining in
    let so = c.loop.invariant in
    let p = err_from_is_err_and c.from_residual.result c.from_residual.ensures.1 in
    rw (p.1, p.2) (stops_within form c.loop.self (remaining c.args.reader.now) (remaining c.loop.reader) (remaining c.read_once.new.reader) (contents c.args.writer.now) (contents c.loop.writer) (contents c.take_bytes.new.writer) so.text (take c.in-Some.n c.read_once.new.buffer) c.in_err-take_bytes-in-Some.field-0.0
    so.read c.in-Some.ensures.bytes so.stands c.in_err-take_bytes-in-Some.ensures.err)

pub returns-in-None-clause-err : goal.returns-in-None-clause-err
returns-in-None-clause-err g c =
    let form = g.M.Manner.writes c.args.manner.now in
    let contents = g.W.Write.contents in
    let remaining = g.R.Read.remaining in
    let so = c.loop.invariant in
    IfErr-weaker c.break_off.result _ _
    (λ fault breaks. breaks_off form c.loop.self (remaining c.args.reader.now) (remaining c.loop.reader) (remaining c.read_once.new.reader) (contents c.args.writer.now) (contents c.loop.writer) (contents c.break_off.new.writer) so.text fault so.read c.in-None.ensures.kept so.stands breaks)
    c.break_off.ensures.err

pub loop-preserved : goal.loop-preserved
loop-preserved g c =
    let form = g.M.Manner.writes c.args.manner.now in
    let remaining = g.R.Read.remaining in
    let so = c.loop.invariant in
    let done = c.in_ok-take_bytes-in-Some.ensures in
    record {
      text = so.text ++ take c.in-Some.n c.read_once.new.buffer;
      read = consumes_more (remaining c.args.reader.now) (remaining c.loop.reader) (remaining c.read_once.new.reader) so.text (take c.in-Some.n c.read_once.new.buffer) so.read c.in-Some.ensures.bytes;
      stands = done.ok so.text (g.W.Write.contents c.args.writer.now) so.stands;
      number = omega (arith, so.number, done.number, c.in-Some.ensures.few);
      written = done.written;
    }

pub returns-clause-err : goal.returns-clause-err
returns-clause-err g c =
    let form = g.M.Manner.writes c.args.manner.now in
    let contents = g.W.Write.contents in
    let remaining = g.R.Read.remaining in
    let so = c.loop.invariant in
    IfErr-weaker c.break_off-2.result _ _
    (λ fault breaks. breaks_off form c.loop.self (remaining c.args.reader.now) (remaining c.loop.reader) (remaining c.loop.reader) (contents c.args.writer.now) (contents c.loop.writer) (contents c.break_off-2.new.writer) so.text fault so.read (kept (remaining c.loop.reader)) so.stands breaks)
    c.break_off-2.ensures.err
