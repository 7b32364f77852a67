-- Every run leaves a world as its trace tells it.
use Rattle.std.proofs.Common.{List, [], ◌∷◌, sym, subst, inl, inr}
use Rattle.am_state.specs.{Obs}
use Rattle.am_machine.specs.{Event, Answer, Setup, initial_state_of, Step, Run, after, outcome_of, IsConsistent, IsTold, RunsFitTheirTraces}
use Rattle.am_machine.specs.State.{State}
use Rattle.am_machine.proofs.Consistent.{initial_consistent, outcome_consistent}
use Rattle.am_machine.proofs.Told.There.{initial_there, outcome_there}
use Rattle.am_machine.proofs.Told.Statuses.{initial_statuses, outcome_statuses}

-- a consistent state that its trace tells
record Holds (s : State) : Type 0 where
  consistent : IsConsistent s
  told : IsTold s

initial_holds : (opening : Setup) → Holds (initial_state_of opening)
initial_holds opening =
    let c = initial_consistent opening in
    record { consistent = c; told = record { rows = c.traced.fits; there = initial_there opening; statuses = initial_statuses opening } }

outcome_holds : (s : State) (event : Event) → Holds s → Holds (after s (outcome_of s event))
outcome_holds s event h =
    let c = outcome_consistent s event h.consistent in
    record {
      consistent = c;
      told = record {
        rows = c.traced.fits;
        there = outcome_there s event h.consistent.agreed.places h.told.there;
        statuses = outcome_statuses s event h.told.rows h.told.statuses;
      };
    }

step_holds : (old : State) (event : Event) (answer : Answer) (shown : List Obs) (new : State) → Step old event answer shown new → Holds old → Holds new
step_holds old event answer shown new (inl out) h = subst Holds (sym out.same) h
step_holds old event answer shown new (inr comes) h = subst Holds (sym comes.left) (outcome_holds old event h)

run_holds : (old : State) (events : List Event) (answers : List Answer) (new : State) → Run old events answers new → Holds old → Holds new
run_holds old [] [] new run h = subst Holds (sym run) h
run_holds old (event ∷ events) (answer ∷ answers) new run h = run_holds run.0 events answers new run.3 (step_holds old event answer run.1 run.0 run.2 h)
run_holds old [] (answer ∷ answers) new run h = absurd run
run_holds old (event ∷ events) [] new run h = absurd run

pub runs_fit : RunsFitTheirTraces
runs_fit opening events answers s run = (run_holds (initial_state_of opening) events answers s run (initial_holds opening)).told
