use Rattle.std.proofs.Common.{◌++◌, ◌∷◌, [], refl, arith}
use Rattle.std.proofs.lemmas.Result.{err_from_is_err_and}
use Rattle.am_script.proofs.ReadingLemmas.{cut_size, line_parts}
use Rattle.am_serve.proofs.ReadingLemmas.{bytes_taken, line_more, line_stops, reaches_none}
use Rattle.am_serve.proofs.reading.Reading.take_bytes.Goals as goal

pub loop-end-init : goal.loop-end-init
loop-end-init g c = record {
  done = [];
  parts = refl;
  stands = reaches_none c.args.self.now (g.W.Write.contents c.args.writer.now);
  number = omega arith;
  few = c.requires.few;
}

pub returns-in_err-answer-clause-err : goal.returns-in_err-answer-clause-err
returns-in_err-answer-clause-err g c =
    let contents = g.W.Write.contents in
    let so = c.loop-end.invariant in
    let p = err_from_is_err_and c.from_residual.result c.from_residual.ensures.1 in
    rw (p.1, p.2) (line_stops c.args.self.now c.loop-end.self c.hold.new.self c.args.bytes.now so.done c.loop-end.rest.now c.in-Some.end.now c.in-Some.after.now (contents c.args.writer.now) (contents c.loop-end.writer) (contents c.answer.new.writer) c.in_err-answer.field-0.0
    so.stands so.parts c.in-Some.ensures.some c.hold.ensures c.in_err-answer.ensures.err)

pub loop-end-preserved : goal.loop-end-preserved
loop-end-preserved g c =
    let contents = g.W.Write.contents in
    let so = c.loop-end.invariant in
    let cut = c.in-Some.ensures.some in
    record {
      done = so.done ++ (c.in-Some.end.now ++ 10 ∷ []);
      parts = line_parts c.args.bytes.now so.done c.loop-end.rest.now c.in-Some.end.now c.in-Some.after.now so.parts cut;
      stands = line_more c.args.self.now c.loop-end.self c.answer.new.self c.hold.new.self so.done c.loop-end.rest.now c.in-Some.end.now c.in-Some.after.now (contents c.args.writer.now) (contents c.loop-end.writer) (contents c.answer.new.writer)
          so.stands cut c.hold.ensures c.in_ok-answer.ensures.ok;
      number = omega (arith, so.number, c.in_ok-answer.ensures.number, cut_size c.loop-end.rest.now c.in-Some.end.now c.in-Some.after.now cut);
      few = c.in_ok-answer.ensures.few;
    }

pub returns-clause-ok : goal.returns-clause-ok
returns-clause-ok g c =
    let contents = g.W.Write.contents in
    let so = c.loop-end.invariant in
    bytes_taken c.args.self.now c.loop-end.self c.hold-2.new.self c.args.bytes.now so.done c.loop-end.rest.now (contents c.args.writer.now) (contents c.loop-end.writer)
    so.stands so.parts c.in_default.ensures.none c.hold-2.ensures
