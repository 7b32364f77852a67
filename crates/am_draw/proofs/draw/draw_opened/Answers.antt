use Rattle.std.proofs.Common.{option_copied}
use Rattle.am_script.specs.{lines_in, Told, events_from}
use Rattle.am_draw.proofs.DrawnSoFar.{ends_ok, ends_err}
use Rattle.am_world.specs.Capacity.{state_of}
use Rattle.am_draw.proofs.draw.draw_opened.Goals as goal

pub returns-clause-ok : goal.returns-clause-ok
returns-clause-ok g c = λ sized.
    let contents = g.W.Write.contents in
    let told : Told = events_from c.args.opened.broke c.args.opened.line (lines_in (option_copied c.args.opened.rest)) in
    ends_ok c.args.first c.args.last (state_of c.args.opened.world) told (contents c.args.writer.now) (contents c.draw_events-drawn.new.writer) c.draw_events-drawn.result (c.draw_events-drawn.ensures.ends c.args.first c.args.last c.args.counted.size c.part_of-part.ensures.part sized)

pub returns-clause-err : goal.returns-clause-err
returns-clause-err g c = λ sized.
    let contents = g.W.Write.contents in
    let told : Told = events_from c.args.opened.broke c.args.opened.line (lines_in (option_copied c.args.opened.rest)) in
    ends_err c.args.first c.args.last (state_of c.args.opened.world) told (contents c.args.writer.now) (contents c.draw_events-drawn.new.writer) c.draw_events-drawn.result (c.draw_events-drawn.ensures.ends c.args.first c.args.last c.args.counted.size c.part_of-part.ensures.part sized)
