-- In every world that came by a run, the last that was seen of a walker tells how it stands.
use Rattle.std.proofs.Common.{◌≡◌, ℕ, Bool, true, false, List, [], ◌∷◌, refl, inl, inr}
use Rattle.std.specs.Prelude.{if◌then◌else◌}
use Rattle.am_names.specs.declared.trigger.Trigger.{Trigger}
use Rattle.am_state.specs.{Obs}
use Rattle.am_state.specs.declared.obs.Obs.TheVariants as seen
use Rattle.am_job.specs.{is_reply}
use Rattle.am_daemon.specs.{plan_of_packet}
use Rattle.am_machine.specs.{Answer, Event, FitsTrace, Setup, Step, after, initial_state_of, outcome_of, rows_in}
use Rattle.am_machine.specs.State.{State}
use Rattle.am_machine.proofs.Tour.Walks.{AnyPath}
use Rattle.am_machine.proofs.Tour.Events as tours
use Rattle.am_machine.proofs.Tour.Events.{AnyJob, any_event}
use Rattle.am_draw.specs.Standings.{AreApart, Standing, stands, stands_behind}
use Rattle.am_draw.proofs.StandingWalks.{IsSeen, SeenBy, answers, fails, leaves_one, walkers}

-- how each walker stands is seen
abbrev pub AreApartIn : State → Type 0
AreApartIn s = AreApart s.kernel.waits.waits s.kernel.uses

abbrev pub IsSeenIn : State → List Obs → State → Type 0
IsSeenIn s shown t = IsSeen s.kernel.waits.waits s.kernel.uses shown t.kernel.waits.waits t.kernel.uses

pub record Shows (s : State) (shown : List Obs) (t : State) : Type 0 where
  pub shows : FitsTrace (rows_in s) s.trace → AreApartIn s → IsSeenIn s shown t

-- nothing of it is seen, and nobody stands otherwise
quietly : (s t : State) (shown : List Obs) → ((walker : ℕ) (old : Standing) → stands_behind walker old shown ≡ old)
    → t.kernel.waits ≡ s.kernel.waits → t.kernel.uses ≡ s.kernel.uses → Shows s shown t
quietly s t shown none waits uses = record {
  shows = λ fits apart.
      rw (waits, uses) (record { apart = apart; tells = λ walker. none walker (stands walker s.kernel.waits.waits s.kernel.uses) });
}

recording_quiet : (b : Bool) (trigger : Trigger) (entry : _) (walker : ℕ) (old : Standing)
    → stands_behind walker old (if b then [] else seen.Recorded trigger entry ∷ []) ≡ old
recording_quiet true trigger entry walker old = refl
recording_quiet false trigger entry walker old = refl

events : tours.Keeps AnyPath AnyJob SeenBy Shows
events = record {
  same = λ s. quietly s s _ (λ w o. refl) refl refl;
  attached = λ s path point at is fresh may. quietly s _ _ (λ w o. refl) refl refl;
  mounted = λ s ns path at is may. quietly s _ _ (λ w o. refl) refl refl;
  bound = λ s source at may. quietly s _ _ (λ w o. refl) refl refl;
  unmounted = λ s at may. quietly s _ _ (λ w o. refl) refl refl;
  changed = λ s change at may. quietly s _ _ (λ w o. refl) refl refl;
  copied = λ s ns form may. quietly s _ _ (λ w o. refl) refl refl;
  dropped = λ s ns may. quietly s _ _ (λ w o. refl) refl refl;
  walks = walkers;
  walked = λ s shown k moment shows. record { shows = λ fits apart. shows s.daemon.jobs s.trace fits apart };
  left = λ s walker mount is. record { shows = λ fits apart. leaves_one s.kernel.waits.waits s.kernel.uses walker mount is apart };
  made_catatonic = λ s fs. record { shows = λ fits apart. fails s.kernel fs fits.sound apart };
  timed = λ s fs timeout. quietly s _ _ (λ w o. refl) refl refl;
  died = λ s. quietly s _ _ (λ w o. refl) refl refl;
  reattached = λ s fs row is dead. quietly s _ _ (λ w o. refl) refl refl;
  delivered = λ s token row taken. quietly s _ _ (recording_quiet (is_reply (plan_of_packet s.daemon row.packet)) _ _) refl refl;
  rested = λ s row a outcome i r. quietly s _ _ (λ w o. refl) refl refl;
  directory_made = λ s row trigger i. quietly s _ _ (λ w o. refl) refl refl;
  directory_gone = λ s row trigger i. quietly s _ _ (λ w o. refl) refl refl;
  mounted_on = λ s row trigger entry i may. quietly s _ _ (λ w o. refl) refl refl;
  unmounted_on = λ s row trigger mount i u. quietly s _ _ (λ w o. refl) refl refl;
  recorded = λ s row trigger entry i held. quietly s _ _ (λ w o. refl) refl refl;
  replied = λ s row status its i is. record { shows = λ fits apart. answers s.kernel row.token status fits.sound apart };
}

-- an event is seen so
pub outcome_shows : (s : State) (event : Event) → FitsTrace (rows_in s) s.trace → AreApartIn s → IsSeenIn s (outcome_of s event).seen (after s (outcome_of s event))
outcome_shows s event fits apart = (tours.outcome AnyPath AnyJob SeenBy Shows events s event (any_event s event)).well.shows fits apart

pub step_shows : (old : State) (event : Event) (answer : Answer) (shown : List Obs) (new : State) → Step old event answer shown new → FitsTrace (rows_in old) old.trace → AreApartIn old
    → IsSeenIn old shown new
step_shows old event answer shown new (inl out) fits apart =
    rw (out.same, out.nothing) (record { apart = apart; tells = λ walker. refl })
step_shows old event answer shown new (inr comes) fits apart =
    rw (comes.left, comes.shown) (outcome_shows old event fits apart)

pub initial_apart : (opening : Setup) → AreApartIn (initial_state_of opening)
initial_apart opening = λ walker is. absurd cc
