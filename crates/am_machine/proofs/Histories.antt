-- A legal history begins with the initial world, and goes on by a step, and by a run.
use Rattle.std.proofs.Common.{List, [], ◌∷◌, ◌++◌, refl, sym, subst, append_assoc}
use Rattle.std.proofs.lemmas.List.{map-append, append-nil}
use Rattle.am_state.specs.{Obs}
use Rattle.am_machine.specs.{Event, Answer, Entry, Setup, setup_of, initial_state_of, entry, entries, events_of, answers_of, Step, Run, IsLegal, GoesOnBy}
use Rattle.am_machine.specs.State.{State}
use Rattle.am_machine.proofs.Runs.{run_more}
use Rattle.am_machine.proofs.Consistent.{step_lawful}

pub legal_begins : (opening : Setup) → IsLegal [] (initial_state_of opening)
legal_begins opening = refl

pub legal_more : (history : List Entry) (mid : State) (event : Event) (answer : Answer) (new : State) → IsLegal history mid → (seen : List Obs) × Step mid event answer seen new → IsLegal (history ++ entry event answer ∷ []) new
legal_more history mid event answer new here step =
    let last = entry event answer ∷ [] in
    let more = run_more (initial_state_of (setup_of mid)) (events_of history) (answers_of history) mid event answer new here step in
    let events = subst (λ (came : List Event). Run (initial_state_of (setup_of mid)) came (answers_of history ++ answer ∷ []) new) (sym (map-append (λ (e : Entry). e.event) history last)) more in
    let answers = subst (λ (told : List Answer). Run (initial_state_of (setup_of mid)) (events_of (history ++ last)) told new) (sym (map-append (λ (e : Entry). e.answer) history last)) events in
    subst (λ (o : Setup). Run (initial_state_of o) (events_of (history ++ last)) (answers_of (history ++ last)) new) (sym (step_lawful mid event answer step.0 new step.1).opening) answers

pub step_goes_on : (old : State) (event : Event) (answer : Answer) (new : State) → (seen : List Obs) × Step old event answer seen new → GoesOnBy (entry event answer ∷ []) old new
step_goes_on old event answer new step history here = legal_more history old event answer new here step

pub run_goes_on : (old : State) (events : List Event) (answers : List Answer) (new : State) → Run old events answers new → GoesOnBy (entries events answers) old new
run_goes_on old [] [] new run history here = subst (λ (l : List Entry). IsLegal l new) (sym (append-nil history)) (subst (λ (s : State). IsLegal history s) (sym run) here)
run_goes_on old (e ∷ events) (a ∷ answers) new run history here =
    let last = entry e a ∷ [] in
    let next = legal_more history old e a run.0 here (run.1, run.2) in
    subst (λ (l : List Entry). IsLegal l new) (append_assoc history last (entries events answers)) (run_goes_on run.0 events answers new run.3 (history ++ last) next)
run_goes_on old [] (a ∷ answers) new run history here = elim run [ ]
run_goes_on old (e ∷ events) [] new run history here = elim run [ ]
