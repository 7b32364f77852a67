-- What every step keeps.
use Rattle.std.proofs.Common.{List, sym, subst, inl, inr, ◌∙◌}
use Rattle.am_state.specs.{Obs}
use Rattle.am_propagate.proofs.RemovalLemmas.{same_there}
use Rattle.am_machine.specs.{Event, Answer, initial_state_of, Step, after, outcome_of, PlacesAgree, StepsAreLawful, AddsNoReceivers, StepsAddNoReceivers, RunsGoOn}
use Rattle.am_machine.specs.State.{State}
use Rattle.am_machine.proofs.Runs.{run_more}
use Rattle.am_machine.proofs.Places.Changes.{outcome_receivers}
use Rattle.am_machine.proofs.Consistent.{step_lawful, initial_consistent, run_consistent}

pub steps_lawful : StepsAreLawful
steps_lawful old event answer seen new step = step_lawful old event answer seen new step

pub run_goes_on : RunsGoOn
run_goes_on old events answers mid run event answer seen new step = run_more old events answers mid event answer new run (seen, step)

outcome_adds : (s : State) (event : Event) → PlacesAgree s.kernel → AddsNoReceivers s (after s (outcome_of s event))
outcome_adds s event h b c there other r =
    let whole = h.whole in
    outcome_receivers s event h b c (sym (same_there s.kernel.table whole b) ∙ there) (sym (same_there s.kernel.table whole c) ∙ other) r

step_adds : (old : State) (event : Event) (answer : Answer) (seen : List Obs) (new : State) → PlacesAgree old.kernel → Step old event answer seen new → AddsNoReceivers old new
step_adds old event answer seen new h (inl out) = subst (AddsNoReceivers old) (sym out.same) (λ b c there other r. r)
step_adds old event answer seen new h (inr comes) = subst (AddsNoReceivers old) (sym comes.left) (outcome_adds old event h)

pub steps_add_none : StepsAddNoReceivers
steps_add_none opening events answers old run event answer seen new step =
    step_adds old event answer seen new (run_consistent (initial_state_of opening) events answers old run (initial_consistent opening)).agreed.places step
