-- What each event changes in the lanes, one change after another, and what is true of bars behind it.
-- Own choice (docs/FORMATS.md, "Pictures").
use Rattle.std.specs.Prelude.{◌≡◌, ℕ, ◌+◌, false, List, [], ◌∷◌, ◌++◌, length, get_or, Option, None, Some, if◌then◌else◌}
use Rattle.std.specs.List.{flat_map}
use Rattle.am_names.specs.{same_trigger}
use Rattle.am_names.specs.declared.trigger.Trigger.{Trigger}
use Rattle.am_kernel.specs.{KernelState}
use Rattle.am_trigger.specs.{Failure}
use Rattle.am_state.specs.{Obs}
use Rattle.am_state.specs.declared.obs.Obs.TheVariants as seen
use Rattle.am_machine.specs.{Event}
use Rattle.am_machine.specs.declared.event.Event.TheVariants as events
use Rattle.am_machine.specs.State.{State}
use Rattle.am_script.specs.{Numbered}
use Rattle.am_lanes.specs.{Change, HaveBars, Look, bar_behind}
use Rattle.am_lanes.specs.Changes.Change.{Places, Sights, Ends}
use Rattle.am_lanes.specs.declared.holder.Look.TheVariants.{Waits, Inside, Idle, Catatonic, Dead}
use Rattle.am_lanes.specs.declared.holder.Ending.TheVariants.{Of, In}
use Rattle.am_draw.specs.declared.failing.Failing.{Failing}
use Rattle.am_draw.specs.declared.part.Part.{Part}
use Rattle.am_draw.specs.Drawn.{Viewed, ViewedRun, asked_in, first_lasts, lasts_behind, size_of}
use Rattle.am_draw.specs.Failures.{lasting_in}
use Rattle.am_draw.specs.Lasting.{Lasts, the_daemon, token_look}
use Rattle.am_draw.specs.Parts.{is_past}

-- a walker looks so from the event with this number on
abbrev pub walker_looks : ℕ → ℕ → Look → List Change
walker_looks number walker look = Places (record { number = walker; look = look; since = number }) ∷ []

-- what an observation of the event with this number changes in the lanes of tokens
abbrev pub token_changes : ℕ → Obs → List Change
token_changes number (seen.Queued token attach packet) =
    Places (record { number = token; look = token_look packet.kind packet.dev; since = number }) ∷ []
token_changes number (seen.Answered token status) = Ends (Of token) ∷ []
token_changes number (seen.Catatonic fs) = Ends (In fs) ∷ []
token_changes number obs = []

-- and in the lanes of walkers
abbrev pub walker_changes : ℕ → Obs → List Change
walker_changes number (seen.Waits walker token) = walker_looks number walker Waits
walker_changes number (seen.Released walker token status) = walker_looks number walker Idle
walker_changes number (seen.Entered walker mount) = walker_looks number walker Inside
walker_changes number (seen.Left walker mount) = walker_looks number walker Idle
walker_changes number obs = []

-- a walker that does something has a lane
abbrev pub actor_changes : ℕ → Event → List Change
actor_changes number (events.Walk walker ns path now pipe) = Sights walker number ∷ []
actor_changes number (events.Resume walker now pipe) = Sights walker number ∷ []
actor_changes number (events.Leave walker) = Sights walker number ∷ []
actor_changes number (events.Expire walker fs now immediate pipe) = Sights walker number ∷ []
actor_changes number event = []

-- and in those of file systems
abbrev pub system_changes : ℕ → Obs → List Change
system_changes number (seen.Catatonic fs) =
    Places (record { number = fs; look = Catatonic; since = number }) ∷ []
system_changes number (seen.Reattached fs attach) = Ends (Of fs) ∷ []
system_changes number obs = []

-- and in that of the daemon
abbrev pub daemon_changes : ℕ → Obs → List Change
daemon_changes number seen.Died =
    Places (record { number = the_daemon; look = Dead; since = number }) ∷ []
daemon_changes number obs = []

-- a daemon that attaches lives
abbrev pub living_changes : Event → List Change
living_changes (events.Attach path) = Ends (Of the_daemon) ∷ []
living_changes (events.Reattach fs) = Ends (Of the_daemon) ∷ []
living_changes event = []

-- what these events change in the lanes of tokens, of which the first has this number
abbrev pub changes_of_tokens : ℕ → List Viewed → List Change
changes_of_tokens number [] = []
changes_of_tokens number (row ∷ rows) =
    flat_map (token_changes number) row.seen ++ changes_of_tokens (number + 1) rows

-- and in the lanes of walkers
abbrev pub changes_of_walkers : ℕ → List Viewed → List Change
changes_of_walkers number [] = []
changes_of_walkers number (row ∷ rows) =
    (actor_changes number row.asked.event ++ flat_map (walker_changes number) row.seen)
    ++ changes_of_walkers (number + 1) rows

-- and in those of file systems
abbrev pub changes_of_systems : ℕ → List Viewed → List Change
changes_of_systems number [] = []
changes_of_systems number (row ∷ rows) =
    flat_map (system_changes number) row.seen ++ changes_of_systems (number + 1) rows

-- and in that of the daemon
abbrev pub changes_of_daemon : ℕ → List Viewed → List Change
changes_of_daemon number [] = []
changes_of_daemon number (row ∷ rows) =
    (living_changes row.asked.event ++ flat_map (daemon_changes number) row.seen)
    ++ changes_of_daemon (number + 1) rows

-- the failure in a lane, if it is at this trigger
abbrev pub failure_in : Trigger → Option Failing → Option Failure
failure_in trigger None = None
failure_in trigger (Some held) = if same_trigger held.trigger trigger then Some held.failure else None

-- this failure at this trigger has a bar in one of the lanes
abbrev pub HasFailure : Trigger → Failure → List (Option Failing) → Type 0
HasFailure trigger failure lanes = (lane : ℕ) × (failure_in trigger (get_or lanes lane None) ≡ Some failure)

-- the failures that have bars in these lanes are those that last in the kernel
pub record HaveFailures (lanes : List (Option Failing)) (k : KernelState) : Type 0 where
  pub there : (trigger : Trigger) (failure : Failure) →
      lasting_in k.negative k trigger ≡ Some failure → HasFailure trigger failure lanes
  pub no_other : (trigger : Trigger) (failure : Failure) →
      HasFailure trigger failure lanes → lasting_in k.negative k trigger ≡ Some failure
  -- no trigger has two lanes
  pub once : (trigger : Trigger) (i j : ℕ) (failure other : Failure) →
      failure_in trigger (get_or lanes i None) ≡ Some failure →
      failure_in trigger (get_or lanes j None) ≡ Some other → i ≡ j

-- Who has a bar behind these events, and how it looks, is what was seen of them, from this state to that
-- one. Which failures have one is what that state says, if there were none at first.
pub record BarsAreSeen (lasts : Lasts) (start : State) (rows : List Viewed) (now : State) : Type 0 where
  pub tokens : HaveBars lasts.tokens (λ token. bar_behind token None (changes_of_tokens 1 rows))
  pub walkers : HaveBars lasts.walkers (λ walker. bar_behind walker None (changes_of_walkers 1 rows))
  pub systems : HaveBars lasts.systems (λ fs. bar_behind fs None (changes_of_systems 1 rows))
  pub daemon : HaveBars lasts.daemon (λ number. bar_behind number None (changes_of_daemon 1 rows))
  pub failures : start.kernel.failures ≡ [] → HaveFailures lasts.failures now.kernel

-- Where a part of a picture has as many lanes as a run of all events comes to, these events come first of
-- them, and the last of them isn't behind the part, each has the bar that was seen to begin and not to
-- end, and each failure one that lasts, in one lane, and no other has one.
abbrev pub NobodyLosesABar : Type 0
NobodyLosesABar =
    (part : Part) (start ends now : State) (all rows : List Viewed) (left : List Numbered) →
    ViewedRun start all ends → ViewedRun start rows now → asked_in all ≡ asked_in rows ++ left →
    part.size ≡ size_of start all → is_past part (length rows) ≡ false →
    BarsAreSeen (lasts_behind part 1 (first_lasts part) rows) start rows now
