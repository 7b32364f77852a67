use Rattle.std.proofs.Common.{◌≡◌, ◌+◌, Option, List, ℕ, Some, Ok, Err, option_copied, refl, subst, arith}
use Rattle.am_script.specs.{lines_in, Output, Numbered, Told, events_from, told_by}
use Rattle.am_views.proofs.CountedLemmas.{more_lines}
use Rattle.am_draw.specs.{Finishes, Lasts, lasts_of, tail_behind}
use Rattle.am_draw.proofs.DrawnSoFar.{drawing_none, drawing_more, drawing_cut, drawing_ends, drawing_fails, no_room}
use Rattle.am_world.specs.Capacity.{state_of}
use Rattle.am_draw.proofs.draw.draw_events.Goals as goal

pub loop-output-init : goal.loop-output-init
loop-output-init g c = record {
  going = drawing_none _ _ _ _ _ _ c.requires.lasts c.new_output-output.ensures.bytes c.new_output-output.ensures.marks c.new_output-output.ensures.line c.new_output-output.ensures.lost;
  fits = c.requires.fits;
  lines = omega (arith, c.requires.fits);
  refused = omega arith;
}

pub returns-in-Ok-None-clause-ends : goal.returns-in-Ok-None-clause-ends
returns-in-Ok-None-clause-ends g c = λ first last size is sized.
    let contents = g.W.Write.contents in
    let all : Told = events_from c.args.broke c.args.line (lines_in (option_copied c.args.rest)) in
    let left : Told = events_from c.args.broke c.loop-output.number (lines_in (option_copied c.loop-output.rest)) in
    let none = rw c.in-Ok-None.field-0-is at c.in-Ok-None.ensures.ok in
    drawing_ends first last size c.args.part.now (state_of c.args.world.now) all left (lasts_of c.loop-output.lasting) c.loop-output.output (contents c.args.writer.now) (contents c.loop-output.writer) (contents c.finish.new.writer) (state_of c.loop-output.world) c.loop-output.summary c.finish.result sized is none.0 c.loop-output.invariant.going c.finish.ensures.finishes

pub returns-in-Some-clause-ends : goal.returns-in-Some-clause-ends
returns-in-Some-clause-ends g c = λ first last size is sized.
    let contents = g.W.Write.contents in
    let all : Told = events_from c.args.broke c.args.line (lines_in (option_copied c.args.rest)) in
    let left : Told = events_from c.args.broke c.loop-output.number (lines_in (option_copied c.loop-output.rest)) in
    let behind : Told = events_from c.args.broke c.in-Ok-Some.found.line (lines_in (option_copied c.in-Ok-Some.found.rest)) in
    let asked : Numbered = record { line = c.in-Ok-Some.found.line; event = c.in-Ok-Some.found.event } in
    let next : left ≡ told_by (Ok (Some asked.event)) asked.line behind = rw c.in-Ok-Some.field-0-is at c.in-Ok-Some.ensures.ok in
    let drawn = rw c.in-Ok-Some.field-0-is at c.in-Ok.ensures.drawn in
    let more = drawing_more c.args.part.now (state_of c.args.world.now) all left behind (lasts_of c.loop-output.lasting) (lasts_of c.draw_found.new.lasting) c.loop-output.output c.draw_found.new.output (contents c.args.writer.now) (contents c.loop-output.writer) (contents c.draw_found.new.writer) (state_of c.loop-output.world) (state_of c.draw_found.new.world) c.loop-output.summary asked (c.loop-output.summary.lines + 1) c.in-Ok.behind.refused next refl c.loop-output.invariant.going drawn in
    drawing_cut first last size _ _ _ _ _ _ _ _ _ _ c.in-Some.line sized is c.in-Some.is more

pub loop-output-preserved : goal.loop-output-preserved
loop-output-preserved g c =
    let contents = g.W.Write.contents in
    let all : Told = events_from c.args.broke c.args.line (lines_in (option_copied c.args.rest)) in
    let left : Told = events_from c.args.broke c.loop-output.number (lines_in (option_copied c.loop-output.rest)) in
    let behind : Told = events_from c.args.broke c.in-Ok-Some.found.line (lines_in (option_copied c.in-Ok-Some.found.rest)) in
    let asked : Numbered = record { line = c.in-Ok-Some.found.line; event = c.in-Ok-Some.found.event } in
    let next : left ≡ told_by (Ok (Some asked.event)) asked.line behind = rw c.in-Ok-Some.field-0-is at c.in-Ok-Some.ensures.ok in
    let within = rw c.in-Ok-Some.field-0-is at c.in-Ok-Some.ensures.within in
    let drawn = rw c.in-Ok-Some.field-0-is at c.in-Ok.ensures.drawn in
    let more = drawing_more c.args.part.now (state_of c.args.world.now) all left behind (lasts_of c.loop-output.lasting) (lasts_of c.draw_found.new.lasting) c.loop-output.output c.draw_found.new.output (contents c.args.writer.now) (contents c.loop-output.writer) (contents c.draw_found.new.writer) (state_of c.loop-output.world) (state_of c.draw_found.new.world) c.loop-output.summary asked (c.loop-output.summary.lines + 1) c.in-Ok.behind.refused next refl c.loop-output.invariant.going drawn in
    let line = rw c.in-Ok-Some.field-0-is at c.in-Ok.ensures.line in
    let rest = rw c.in-Ok-Some.field-0-is at c.in-Ok.ensures.rest in
    record {
      going = rw (line, rest, c.one_more-summary.ensures) more;
      fits = rw (line, rest) (omega (arith, within.fits, c.loop-output.invariant.fits));
      lines = rw (rest, c.one_more-summary.ensures) (omega (arith, within.fewer, c.loop-output.invariant.lines));
      refused = rw c.one_more-summary.ensures (more_lines c.loop-output.summary c.in-Ok.behind.refused c.loop-output.invariant.refused);
    }

pub returns-in-Err-draw_found-clause-ends : goal.returns-in-Err-draw_found-clause-ends
returns-in-Err-draw_found-clause-ends g c = λ first last size is sized.
    let contents = g.W.Write.contents in
    let all : Told = events_from c.args.broke c.args.line (lines_in (option_copied c.args.rest)) in
    let left : Told = events_from c.args.broke c.loop-output.number (lines_in (option_copied c.loop-output.rest)) in
    let behind : Told = events_from c.args.broke c.in-Ok-Some.found.line (lines_in (option_copied c.in-Ok-Some.found.rest)) in
    let asked : Numbered = record { line = c.in-Ok-Some.found.line; event = c.in-Ok-Some.found.event } in
    let next : left ≡ told_by (Ok (Some asked.event)) asked.line behind = rw c.in-Ok-Some.field-0-is at c.in-Ok-Some.ensures.ok in
    let undrawn = rw c.in-Ok-Some.field-0-is at c.in-Err-draw_found.ensures.err in
    let fault = c.in-Err-draw_found.fault in
    let ends = c.finish-in-Err-draw_found in
    let lasting = c.in-Err-draw_found.ensures.lasting in
    let finishes =
    subst (λ (l : Lasts). Finishes c.loop-output.output (tail_behind c.args.part.now c.loop-output.summary.lines l) (Err fault) (contents c.loop-output.writer) (contents ends.new.writer) ends.result) lasting
    (subst (λ (w : Option (List ℕ)). Finishes c.loop-output.output (tail_behind c.args.part.now c.loop-output.summary.lines (lasts_of c.draw_found.new.lasting)) (Err fault) w (contents ends.new.writer) ends.result) undrawn.written
    (subst (λ (o : Output). Finishes o (tail_behind c.args.part.now c.loop-output.summary.lines (lasts_of c.draw_found.new.lasting)) (Err fault) (contents c.draw_found.new.writer) (contents ends.new.writer) ends.result) undrawn.same ends.ensures.finishes)) in
    drawing_fails first last size c.args.part.now (state_of c.args.world.now) all left (lasts_of c.loop-output.lasting) c.loop-output.output (contents c.args.writer.now) (contents c.loop-output.writer) (contents ends.new.writer) (state_of c.loop-output.world) c.loop-output.summary fault ends.result sized is (no_room left behind asked fault next undrawn.told) c.loop-output.invariant.going finishes

pub returns-in-Err-clause-ends : goal.returns-in-Err-clause-ends
returns-in-Err-clause-ends g c = λ first last size is sized.
    let contents = g.W.Write.contents in
    let all : Told = events_from c.args.broke c.args.line (lines_in (option_copied c.args.rest)) in
    let left : Told = events_from c.args.broke c.loop-output.number (lines_in (option_copied c.loop-output.rest)) in
    drawing_fails first last size c.args.part.now (state_of c.args.world.now) all left (lasts_of c.loop-output.lasting) c.loop-output.output (contents c.args.writer.now) (contents c.loop-output.writer) (contents c.finish-in-Err.new.writer) (state_of c.loop-output.world) c.loop-output.summary c.in-Err.fault c.finish-in-Err.result sized is c.in-Err.ensures.err c.loop-output.invariant.going c.finish-in-Err.ensures.finishes
