-- In every world all names are names.
use Rattle.std.proofs.Common.{List, [], ◌∷◌, subst, sym, inl, inr}
use Rattle.std.proofs.lemmas.List.Elements.{All-nil, All-head, All-tail}
use Rattle.am_state.specs.{Obs}
use Rattle.am_machine.specs.{Event, Answer, Setup, initial_state_of, Step, Run, after, outcome_of, HasPaths, HavePaths, WalksFit}
use Rattle.am_machine.specs.State.{State}
use Rattle.am_machine.proofs.Walks.Changes.{outcome_names}

pub initial_named : (opening : Setup) → WalksFit (initial_state_of opening).kernel
initial_named opening = record { tokens = All-nil _; waits = All-nil _; used = All-nil _; walks = All-nil _; began = All-nil _ }

-- an outcome leaves it so
pub outcome_named : (s : State) (event : Event) → HasPaths event → WalksFit s.kernel → WalksFit (after s (outcome_of s event)).kernel
outcome_named s event along h = outcome_names s event along h

-- and so does a step
pub step_named : (old : State) (event : Event) (answer : Answer) (shown : List Obs) (new : State) → Step old event answer shown new → HasPaths event → WalksFit old.kernel → WalksFit new.kernel
step_named old event answer shown new (inl out) along h = subst (λ (s : State). WalksFit s.kernel) (sym out.same) h
step_named old event answer shown new (inr comes) along h = subst (λ (s : State). WalksFit s.kernel) (sym comes.left) (outcome_named old event along h)

-- and so does a run
pub run_named : (old : State) (events : List Event) (answers : List Answer) (new : State) → Run old events answers new → HavePaths events → WalksFit old.kernel → WalksFit new.kernel
run_named old [] [] new run along h = subst (λ (s : State). WalksFit s.kernel) (sym run) h
run_named old (event ∷ events) (answer ∷ answers) new run along h =
    run_named run.0 events answers new run.3 (All-tail HasPaths event events along) (step_named old event answer run.1 run.0 run.2 (All-head HasPaths event events along) h)
run_named old [] (answer ∷ answers) new run along h = absurd run
run_named old (event ∷ events) [] new run along h = absurd run
