use Rattle.std.proofs.Common.{◌++◌, ◌∷◌, [], ℕ, List, refl, sym, subst, append-nil, arith}
use Rattle.am_script.specs.{ReadingStands}
use Rattle.std.proofs.lemmas.Result.{err_from_is_err_and, on_ok_weaker, IfErr-weaker}
use Rattle.am_script.specs.declared.reading.Reading.{Reading}
use Rattle.am_script.proofs.ReadingLemmas.{cut_size, too_long, line_more, line_parts, line_stops, long_stops_in, are_held, bytes_taken, bytes_lost}
use Rattle.am_script.proofs.reading.Reading.take_bytes.Goals as goal

pub loop-end-init : goal.loop-end-init
loop-end-init g c =
    let form = g.M.Manner.writes c.args.manner.now in
    let held = g.W.Write.contents c.args.writer.now in
    record {
      done = [];
      parts = refl;
      stands = λ text start h. subst (λ (t : List ℕ). ReadingStands form c.args.self.now t start held) (sym (append-nil text)) h;
      number = omega arith;
    }

pub returns-in_err-take_end-clause-err : goal.returns-in_err-take_end-clause-err
returns-in_err-take_end-clause-err g c =
    let form = g.M.Manner.writes c.args.manner.now in
    let contents = g.W.Write.contents in
    let so = c.loop-end.invariant in
    let p = err_from_is_err_and c.from_residual.result c.from_residual.ensures.1 in
    rw (p.1, p.2) (line_stops form c.args.self.now c.loop-end.self c.args.bytes.now so.done c.loop-end.rest.now c.in-Some.end.now c.in-Some.after.now (contents c.args.writer.now) (contents c.loop-end.writer) (contents c.take_end.new.writer) c.in_err-take_end.field-0.0
    so.stands so.parts c.in-Some.ensures.some c.requires.few c.in_err-take_end.ensures.err)

pub loop-end-preserved : goal.loop-end-preserved
loop-end-preserved g c =
    let form = g.M.Manner.writes c.args.manner.now in
    let contents = g.W.Write.contents in
    let so = c.loop-end.invariant in
    let cut = c.in-Some.ensures.some in
    record {
      done = so.done ++ (c.in-Some.end.now ++ 10 ∷ []);
      parts = line_parts c.args.bytes.now so.done c.loop-end.rest.now c.in-Some.end.now c.in-Some.after.now so.parts cut;
      stands = line_more form c.args.self.now c.loop-end.self c.take_end.new.self so.done c.loop-end.rest.now c.in-Some.end.now c.in-Some.after.now (contents c.args.writer.now) (contents c.loop-end.writer) (contents c.take_end.new.writer)
          so.stands cut c.in_ok-take_end.ensures.ok c.in_ok-take_end.ensures.empty;
      number = omega (arith, so.number, c.in_ok-take_end.ensures.number, cut_size c.loop-end.rest.now c.in-Some.end.now c.in-Some.after.now cut);
    }

pub returns-in-Err-clause-err : goal.returns-in-Err-clause-err
returns-in-Err-clause-err g c =
    let form = g.M.Manner.writes c.args.manner.now in
    let contents = g.W.Write.contents in
    let so = c.loop-end.invariant in
    long_stops_in form c.args.self.now c.loop-end.self c.args.bytes.now so.done c.loop-end.rest.now (contents c.args.writer.now) (contents c.loop-end.writer) (contents c.stop_long.new.writer) c.stop_long.result
    so.stands so.parts c.in_default.ensures.none (too_long c.loop-end.self.held.items c.loop-end.rest.now c.in-Err.ensures.variant) c.stop_long.ensures

pub returns-clause-ok : goal.returns-clause-ok
returns-clause-ok g c =
    let form = g.M.Manner.writes c.args.manner.now in
    let contents = g.W.Write.contents in
    let so = c.loop-end.invariant in
    let next : Reading = record { player = c.flush.new.self; held = c.try_extend_from_slice.new.self } in
    let held = are_held c.loop-end.self next c.loop-end.rest.now c.in_default.ensures.none (c.in_default-try_extend_from_slice.ensures.ok) (c.in_default-try_extend_from_slice.ensures.variant.0 refl) in
    on_ok_weaker c.flush.result
    (λ flushes. bytes_taken form c.args.self.now c.loop-end.self next c.args.bytes.now so.done c.loop-end.rest.now (contents c.args.writer.now) (contents c.loop-end.writer) (contents c.flush.new.writer) so.stands so.parts held flushes)
    c.flush.ensures.ok

pub returns-clause-err : goal.returns-clause-err
returns-clause-err g c =
    let form = g.M.Manner.writes c.args.manner.now in
    let contents = g.W.Write.contents in
    let so = c.loop-end.invariant in
    let next : Reading = record { player = c.flush.new.self; held = c.try_extend_from_slice.new.self } in
    let held = are_held c.loop-end.self next c.loop-end.rest.now c.in_default.ensures.none (c.in_default-try_extend_from_slice.ensures.ok) (c.in_default-try_extend_from_slice.ensures.variant.0 refl) in
    IfErr-weaker c.flush.result _ _
    (λ fault loses. bytes_lost form c.args.self.now c.loop-end.self next c.args.bytes.now so.done c.loop-end.rest.now (contents c.args.writer.now) (contents c.loop-end.writer) (contents c.flush.new.writer) fault so.stands so.parts held loses)
    c.flush.ensures.err
