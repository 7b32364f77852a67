-- A run goes on by one step.
use Rattle.std.proofs.Common.{List, [], ◌∷◌, ◌++◌, refl, subst}
use Rattle.am_state.specs.{Obs}
use Rattle.am_machine.specs.{Event, Answer, Step, Run}
use Rattle.am_machine.specs.State.{State}

pub run_more : (old : State) (events : List Event) (answers : List Answer) (mid : State) (event : Event) (answer : Answer) (new : State) → Run old events answers mid → (seen : List Obs) × Step mid event answer seen new → Run old (events ++ event ∷ []) (answers ++ answer ∷ []) new
run_more old [] [] mid event answer new here step = (new, step.0, subst (λ (s : State). Step s event answer step.0 new) here step.1, refl)
run_more old (e ∷ events) (a ∷ answers) mid event answer new here step = (here.0, here.1, here.2, run_more here.0 events answers mid event answer new here.3 step)
run_more old [] (a ∷ answers) mid event answer new here step = elim here [ ]
run_more old (e ∷ events) [] mid event answer new here step = elim here [ ]
