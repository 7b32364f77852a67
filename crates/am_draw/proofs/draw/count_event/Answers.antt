use Rattle.std.proofs.Common.{◌≡◌, ℕ, ◌+◌, false, ap, drop, length, subst, sym, ◌∙◌}
use Rattle.am_machine.specs.State.{State}
use Rattle.am_draw.specs.{IsCounted, Lasts, added, is_out_of_memory, lasts_of}
use Rattle.am_draw.proofs.Draws.{counts}
use Rattle.am_world.specs.Capacity.{state_of}
use Rattle.am_draw.proofs.draw.count_event.Goals as goal

pub returns-clause-counted : goal.returns-clause-counted
unfolding state_of
returns-clause-counted c =
    let room : is_out_of_memory c.step-answer.result ≡ false = cc (c.is_out_of_memory.ensures, c.if-is_out_of_memory.false) in
    let old = c.args.world.now in
    let next = c.step-answer.new.self in
    let shown = c.trace-before.result.now in
    let seen = c.seen_since-seen.ensures ∙ ap (λ (n : ℕ). drop (n + length shown) next.trace) c.step-answer.ensures.kept in
    subst (λ (t : State). IsCounted c.args.number (state_of old) (record { line = c.args.line; event = c.args.event.now }) t (lasts_of c.args.lasting.now) (lasts_of c.add.new.self))
    (sym c.let_go.ensures.same)
    (counts c.args.number (state_of old) (state_of next) c.args.event.now c.step-answer.result c.step-answer.ensures.step.0 c.seen_since-seen.result.now c.args.line (old.handed + length shown) (lasts_of c.args.lasting.now) (lasts_of c.add.new.self) c.step-answer.ensures.step.1 room c.trace-before.ensures.count seen
    (c.in_ok-add.ensures ∙ ap (λ (l : Lasts). added c.args.number l c.args.event.now c.seen_since-seen.result.now next.kernel) c.mend.ensures))
