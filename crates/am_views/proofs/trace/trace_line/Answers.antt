use Rattle.std.proofs.Common.{refl}
use Rattle.am_script.specs.Script.{line_read}
use Rattle.am_script.proofs.LineAnswers.{event_turn, no_turn, stopped_turn}
use Rattle.am_views.specs.{traced}
use Rattle.am_world.specs.Capacity.{state_of}
use Rattle.am_views.proofs.trace.trace_line.Goals as goal

pub returns-in-Ok-None-clause-ok : goal.returns-in-Ok-None-clause-ok
returns-in-Ok-None-clause-ok g c =
    no_turn (traced c.args.style) (state_of c.args.world.now) (line_read c.args.line.now) c.args.number c.args.output.now (g.W.Write.contents c.args.writer.now) (rw c.in-Ok-None.field-0-is at c.in-Ok-None.ensures)

pub returns-in-Ok-Some-clause-ok : goal.returns-in-Ok-Some-clause-ok
returns-in-Ok-Some-clause-ok g c =
    let contents = g.W.Write.contents in
    event_turn (traced c.args.style) (state_of c.args.world.now) (state_of c.show-refused.new.world) (line_read c.args.line.now) c.in-Ok-Some.event c.args.number c.args.output.now c.show-refused.new.output (contents c.args.writer.now) (contents c.show-refused.new.writer) c.show-refused.result (rw c.in-Ok-Some.field-0-is at c.in-Ok-Some.ensures) c.show-refused.ensures

pub returns-in-Err-clause-err : goal.returns-in-Err-clause-err
returns-in-Err-clause-err g c =
    stopped_turn (traced c.args.style) (state_of c.args.world.now) (line_read c.args.line.now) c.args.output.now (g.W.Write.contents c.args.writer.now) c.in-Err.kind refl c.in-Err.ensures
