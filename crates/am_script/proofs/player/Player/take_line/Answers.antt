use Rattle.std.proofs.Common.{◌+◌, [], ◌∷◌, ◌++◌, sym, subst}
use Rattle.am_script.specs.{Summary, EventsStand, TakesInHead, StopsInHead}
use Rattle.am_script.proofs.PlayerLemmas.{on_ok, if_err, head_line_taken, head_line_stops, event_line_taken, event_line_stops}
use Rattle.am_world.specs.Capacity.{state_of}
use Rattle.am_script.proofs.player.Player.take_line.Goals as goal

pub returns-in-Head-clause-ok : goal.returns-in-Head-clause-ok
returns-in-Head-clause-ok g c =
    let form = g.M.Manner.writes c.args.manner.now in
    let self = c.args.self.now in
    let after = c.take_in_head.new.self in
    let line = c.args.line.now in
    on_ok c.take_in_head.result (TakesInHead self.place (self.number + 1) line after) _ (λ taken front start stands.
    head_line_taken form self.place after c.in-Head.field-0 self.number self.summary self.output front line start _ c.in-Head.is taken stands)
    c.take_in_head.ensures.ok

pub returns-in-Head-clause-err : goal.returns-in-Head-clause-err
returns-in-Head-clause-err g c =
    let form = g.M.Manner.writes c.args.manner.now in
    let self = c.args.self.now in
    let line = c.args.line.now in
    if_err c.take_in_head.result (StopsInHead self.place (self.number + 1) line) _ (λ fault stops front start stands ending.
    head_line_stops form self.place c.in-Head.field-0 self.number self.summary self.output front line start _ fault c.in-Head.is stops stands ending)
    c.take_in_head.ensures.err

pub returns-in-Ok-clause-ok : goal.returns-in-Ok-clause-ok
returns-in-Ok-clause-ok g c = λ front start stands.
    let form = g.M.Manner.writes c.args.manner.now in
    let self = c.args.self.now in
    let contents = g.W.Write.contents in
    subst (λ (s : Summary). EventsStand form (state_of c.play_line.new.world) (self.number + 1) s c.play_line.new.output (front ++ c.args.line.now ∷ []) start (contents c.play_line.new.writer)) (sym c.counted-self.ensures)
    (event_line_taken form self.place c.in-Events.world c.play_line.new.world self.number self.summary self.output c.play_line.new.output front c.args.line.now start (contents c.args.writer.now) (contents c.play_line.new.writer) c.in-Ok.played c.in-Events.is c.in-Ok.ensures.ok stands)

pub returns-in-Err-clause-err : goal.returns-in-Err-clause-err
returns-in-Err-clause-err g c = λ front start stands ending.
    let form = g.M.Manner.writes c.args.manner.now in
    let self = c.args.self.now in
    let contents = g.W.Write.contents in
    event_line_stops form self.place c.in-Events.world c.play_line.new.world self.number self.summary self.output c.play_line.new.output front c.args.line.now start (contents c.args.writer.now) (contents c.play_line.new.writer) (contents c.stop.new.writer) c.in-Err.kind c.stop.result c.in-Events.is c.in-Err.ensures.err c.stop.ensures stands ending
