use Rattle.std.proofs.Common.{◌≡◌, ℕ, List, drop, ap, sym, ◌∙◌, subst}
use Rattle.am_state.specs.{Obs}
use Rattle.am_machine.specs.{Step}
use Rattle.am_machine.specs.State.{State}
use Rattle.am_world.specs.Capacity.{state_of}
use Rattle.am_shared.proofs.ApplyLemmas.{seen_of}
use Rattle.am_examples.proofs.tests.worlds.observe.Goals as goal

pub returns-clause-step : goal.returns-clause-step
returns-clause-step c =
    let old = c.args.world.now in
    let next = c.step-answer.new.self in
    let step = c.step-answer.ensures.step in
    let seen : c.hand_on.result.items ≡ step.0 =
    c.hand_on.ensures.seen ∙ ap (λ (n : ℕ). drop n next.trace) (c.step-answer.ensures.kept ∙ c.requires)
    ∙ seen_of old next c.args.event.now c.step-answer.result step in
    subst (λ (l : List Obs). Step (state_of old) c.args.event.now c.step-answer.result l (state_of c.hand_on.new.self)) (sym seen)
    (subst (λ (s : State). Step (state_of old) c.args.event.now c.step-answer.result step.0 s) (sym c.hand_on.ensures.same) step.1)
