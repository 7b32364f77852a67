use Rattle.std.proofs.Common.{ℕ, ◌+◌, length, drop, sym, ap, ◌∙◌, subst}
use Rattle.am_machine.specs.State.{State}
use Rattle.am_script.specs.{IsAnswered}
use Rattle.am_views.specs.{traced}
use Rattle.am_views.proofs.Shows.{shows}
use Rattle.am_world.specs.Capacity.{state_of}
use Rattle.am_views.proofs.trace.show.Goals as goal

pub returns : goal.returns
unfolding state_of
returns g c =
    let contents = g.W.Write.contents in
    let old = c.args.world.now in
    let next = c.step-answer.new.self in
    let shown = c.trace-before.result.now in
    let seen = c.seen_since.ensures ∙ ap (λ (n : ℕ). drop (n + length shown) next.trace) c.step-answer.ensures.kept in
    subst (λ (t : State). IsAnswered (traced c.args.style) (state_of old) c.args.event.now t c.args.line c.args.output.now c.put_shown.new.output (contents c.args.writer.now) (contents c.put_shown.new.writer) c.is_refused.result)
    (sym c.let_go.ensures.same)
    (shows c.args.style (state_of old) (state_of next) c.args.event.now c.step-answer.result c.step-answer.ensures.step.0 c.seen_since.result.now c.args.line (old.handed + length shown) c.args.output.now c.begin.new.self c.put_shown.new.output (contents c.args.writer.now) (contents c.begin.new.writer) (contents c.put_shown.new.writer) c.is_refused.result c.step-answer.ensures.step.1 c.trace-before.ensures.count seen c.begin.ensures.settles c.begin.ensures.line c.put_shown.ensures c.is_refused.ensures)
