-- All that every world keeps.
use Rattle.std.proofs.Common.{List, [], ◌∷◌, sym, subst, inl, inr}
use Rattle.std.proofs.lemmas.List.Elements.{All-nil, All-head, All-tail}
use Rattle.am_state.specs.{Obs}
use Rattle.am_daemon.specs.{holds}
use Rattle.am_machine.specs.{Event, Answer, Setup, initial_state_of, Step, Run, HasPaths, HavePaths, WalksFit, FailuresAgree, IsConsistent}
use Rattle.am_machine.specs.State.{State}
use Rattle.am_machine.proofs.Consistent.{initial_consistent, outcome_consistent}
use Rattle.am_machine.proofs.Walks.Runs.{initial_named, outcome_named}
use Rattle.am_machine.proofs.Failures.Changes.{initial_mended, outcome_mended}
use Rattle.am_progress.specs.{AfterEachRun, next}
use Rattle.am_progress.proofs.Directories.{HaveDirectories, outcome_directories}
use Rattle.am_progress.proofs.Triggers.Changes.{Holds, outcome_holds}

-- all that is known of a world
pub record IsWorld (s : State) : Type 0 where
  pub consistent : IsConsistent s
  pub named : WalksFit s.kernel
  pub holds : Holds s
  pub failures : FailuresAgree s.kernel s.daemon
  pub directories : HaveDirectories s

initial_holds : (opening : Setup) → Holds (initial_state_of opening)
initial_holds opening = record { kernel = record { tokens = All-nil _; waits = All-nil _; used = All-nil _; outside = All-nil _; attaches = tt }; plans = All-nil _ }

pub initial_world : (opening : Setup) → IsWorld (initial_state_of opening)
initial_world opening = record { consistent = initial_consistent opening; named = initial_named opening; holds = initial_holds opening; failures = initial_mended opening; directories = λ number row is. absurd cc }

-- what comes of an event is a world
pub next_world : (s : State) (event : Event) → HasPaths event → IsWorld s → IsWorld (next s event)
next_world s event along h =
    let held = outcome_holds s event h.consistent h.holds in
    let mended = outcome_mended s event (record { consistent = h.consistent; walks = h.named }) h.failures in
    record {
      consistent = outcome_consistent s event h.consistent;
      named = outcome_named s event along h.named;
      holds = record { kernel = held.kernel; plans = held.plans };
      failures = record { suited = mended.suited; free = mended.free; mended = mended.mended };
      directories = outcome_directories s event (record { consistent = h.consistent; named = h.named; plans = h.holds.plans }) h.directories;
    }

pub step_world : (old : State) (event : Event) (answer : Answer) (shown : List Obs) (new : State) → Step old event answer shown new → HasPaths event → IsWorld old → IsWorld new
step_world old event answer shown new (inl out) along h = subst IsWorld (sym out.same) h
step_world old event answer shown new (inr comes) along h = subst IsWorld (sym comes.left) (next_world old event along h)

-- and so is where a run leads
pub run_world : (old : State) (events : List Event) (answers : List Answer) (new : State) → Run old events answers new → HavePaths events → IsWorld old → IsWorld new
run_world old [] [] new run along h = subst IsWorld (sym run) h
run_world old (event ∷ events) (answer ∷ answers) new run along h =
    run_world run.0 events answers new run.3 (All-tail HasPaths event events along) (step_world old event answer run.1 run.0 run.2 (All-head HasPaths event events along) h)
run_world old [] (answer ∷ answers) new run along h = absurd run
run_world old (event ∷ events) [] new run along h = absurd run

-- what holds of each world holds after each run
pub after_runs : (holds : State → Type 0) → ((s : State) → IsWorld s → holds s) → AfterEachRun holds
after_runs holds h opening events answers s along run = h s (run_world (initial_state_of opening) events answers s run along (initial_world opening))
