use Rattle.std.proofs.Common.{refl, sym, subst, ◌∙◌}
use Rattle.am_machine.specs.{Comes, outcome_of}
use Rattle.am_machine.specs.State.{State}
use Rattle.am_world.specs.Capacity.{state_of}
use Rattle.am_explore.specs.Orders.{stand_of}
use Rattle.am_explore.proofs.OrderLemmas.{comes_of, no_step}
use Rattle.am_explore.proofs.begun.make.Goals as goal

pub returns-then-not-is_step : goal.returns-then-not-is_step
returns-then-not-is_step c =
    let event = c.args.choice.now.event in
    let answer = c.answer-answer.result in
    let step = c.answer-answer.ensures.step in
    let new = state_of c.answer-answer.new.self in
    let comes : Comes (outcome_of (state_of c.args.begun.now.world) event) (state_of c.args.begun.now.world) answer
    step.0 new =
    subst (λ (s : State). Comes (outcome_of s event) s answer step.0 new) c.in_ok-world.ensures.state
    (comes_of (state_of c.in_ok-world.world) event answer step.0 new
    (sym c.is_no_memory.ensures ∙ c.if-is_no_memory.false) step.1) in
    no_step c.args.scene.now (stand_of c.args.begun.now) c.args.choice.now answer step.0 new comes
    (sym c.is_step.ensures ∙ c.if-not-is_step.true)

pub returns : goal.returns
returns c =
    let event = c.args.choice.now.event in
    let answer = c.answer-answer.result in
    let step = c.answer-answer.ensures.step in
    let new = state_of c.answer-answer.new.self in
    record {
      seen = step.0;
      comes =
          subst (λ (s : State). Comes (outcome_of s event) s answer step.0 new) c.in_ok-world.ensures.state
          (comes_of (state_of c.in_ok-world.world) event answer step.0 new
          (sym c.is_no_memory.ensures ∙ c.if-is_no_memory.false) step.1);
      counts = sym c.is_step.ensures ∙ c.if-not-is_step.false;
      goes_on = rw (c.in_ok-threads.ensures, c.as_slice.ensures.value, c.as_slice-2.ensures.value) refl;
    }
