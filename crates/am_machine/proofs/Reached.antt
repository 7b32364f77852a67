-- A world comes by a run along paths: so it begins, so it goes on by a step, and so each law is one of it.
use Rattle.std.proofs.Common.{List, [], ◌∷◌, ◌++◌, refl, sym, subst}
use Rattle.std.proofs.lemmas.List.Elements.{All-nil, All-push}
use Rattle.am_state.specs.{Obs}
use Rattle.am_laws.specs.{Lawful}
use Rattle.am_machine.specs.{Event, Answer, Setup, setup_of, initial_state_of, HasPaths, Step, Run, IsReached, IsTold, IsConsistent, Agree, AreInStep}
use Rattle.am_machine.specs.State.{State}
use Rattle.am_machine.proofs.Runs.{run_more}
use Rattle.am_machine.proofs.Consistent.{step_lawful, initial_consistent, run_consistent}
use Rattle.am_machine.proofs.Told.Runs.{runs_fit}
use Rattle.am_machine.proofs.Agreement.Runs.{runs_agree}
use Rattle.am_machine.proofs.InStep.Runs.{runs_in_step}

pub reached_first : (opening : Setup) → IsReached (initial_state_of opening)
reached_first opening = record { events = []; answers = []; paths = All-nil HasPaths; run = refl }

pub reached_more : (mid : State) (event : Event) (answer : Answer) (new : State) → IsReached mid → HasPaths event → (seen : List Obs) × Step mid event answer seen new → IsReached new
reached_more mid event answer new h along step = record {
  events = h.events ++ event ∷ [];
  answers = h.answers ++ answer ∷ [];
  paths = All-push HasPaths h.events event h.paths along;
  run =
      subst (λ (opening : Setup). Run (initial_state_of opening) (h.events ++ event ∷ []) (h.answers ++ answer ∷ []) new) (sym (step_lawful mid event answer step.0 new step.1).opening)
      (run_more (initial_state_of (setup_of mid)) h.events h.answers mid event answer new h.run step);
}

-- ---- what holds of it

pub reached_consistent : (s : State) → IsReached s → IsConsistent s
reached_consistent s h = run_consistent (initial_state_of (setup_of s)) h.events h.answers s h.run (initial_consistent (setup_of s))

pub reached_lawful : (s : State) → IsReached s → Lawful s.trace
reached_lawful s h = (reached_consistent s h).traced.lawful

pub reached_told : (s : State) → IsReached s → IsTold s
reached_told s h = runs_fit (setup_of s) h.events h.answers s h.run

pub reached_agree : (s : State) → IsReached s → Agree s
reached_agree s h = runs_agree (setup_of s) h.events h.answers s h.paths h.run

pub reached_in_step : (s : State) → IsReached s → AreInStep s
reached_in_step s h = runs_in_step (setup_of s) h.events h.answers s h.paths h.run
