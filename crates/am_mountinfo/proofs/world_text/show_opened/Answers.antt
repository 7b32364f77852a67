use Rattle.am_mountinfo.proofs.PlayLemmas.{shown_by, stops_by, stops_before}
use Rattle.am_world.specs.Capacity.{state_of}
use Rattle.am_mountinfo.proofs.world_text.show_opened.Goals as goal

pub returns-in-Ok-clause-ok : goal.returns-in-Ok-clause-ok
returns-in-Ok-clause-ok g c =
    let contents = g.W.Write.contents in
    shown_by c.args.only (state_of c.args.opened.world) (state_of c.play_events.new.world) _ (contents c.args.writer.now) (contents c.show_world-shown.new.writer) c.in-Ok.played.summary c.show_world-shown.result c.in-Ok.ensures.ok c.show_world-shown.ensures.same c.show_world-shown.ensures.ok

pub returns-in-Ok-clause-err : goal.returns-in-Ok-clause-err
returns-in-Ok-clause-err g c =
    let contents = g.W.Write.contents in
    stops_by c.args.only (state_of c.args.opened.world) (state_of c.play_events.new.world) c.args.opened.line _ (contents c.args.writer.now) (contents c.show_world-shown.new.writer) c.in-Ok.played.summary c.in-Ok.played.line c.show_world-shown.result c.in-Ok.ensures.ok c.in-Ok.ensures.last c.show_world-shown.ensures.err

pub returns-in-Err-clause-err : goal.returns-in-Err-clause-err
returns-in-Err-clause-err g c =
    stops_before c.args.only (state_of c.args.opened.world) c.args.opened.line _ (g.W.Write.contents c.args.writer.now) c.in-Err.fault c.in-Err.ensures.err
