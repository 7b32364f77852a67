-- What each step keeps, and what it adds to the trace (receivers: sharedsubtree.rst, 5a; the rest is
-- own choice).
use Rattle.std.specs.Prelude.{◌≡◌, ◌⊎◌, ◌≤◌, ℕ, true, false, Some, List, [], ◌∷◌, ◌++◌}
use Rattle.std.specs.List.{count_by, Contains}
use Rattle.am_names.specs.declared.trigger.Trigger.{Trigger}
use Rattle.am_names.specs.{MountRow, Status, WaitRow}
use Rattle.am_names.specs.declared.errno.Errno.{Errno}
use Rattle.am_state.specs.{Obs}
use Rattle.am_group.specs.{Receives}
use Rattle.am_mount.specs.{mount_row, IsOn}
use Rattle.am_propagate.specs.{is_mount}
use Rattle.am_wire.specs.{Packet}
use Rattle.am_trigger.specs.{last_use_of}
use Rattle.am_wait.specs.{wait_of}
use Rattle.am_expire.specs.{is_used}
use Rattle.am_kernel.specs.{KernelState}
use Rattle.am_state.specs.declared.obs.Obs.TheVariants.{Passed, Queued}
use Rattle.am_laws.specs.{is_queued, trigger_of}
use Rattle.am_machine.specs.declared.event.Event.{Event}
use Rattle.am_machine.specs.declared.answer.Answer.{Answer}
use Rattle.am_machine.specs.declared.answer.Answer.TheVariants as answers
use Rattle.am_machine.specs.State.{Setup, State, setup_of, initial_state_of}
use Rattle.am_machine.specs.Machine.{Step, Run}

-- The opening stays, the trace grows by what was seen, and one packet at most is queued.
pub record IsLawful (old : State) (seen : List Obs) (new : State) : Type 0 where
  pub opening : setup_of new ≡ setup_of old
  pub trace : new.trace ≡ old.trace ++ seen
  pub once : count_by is_queued seen ≤ 1

-- every step keeps the opening, and adds what was seen to the trace
abbrev pub StepsAreLawful : Type 0
StepsAreLawful = (old : State) (event : Event) (answer : Answer) (seen : List Obs) (new : State) →
    Step old event answer seen new → IsLawful old seen new

-- an event that is refused is seen by nobody and changes nothing, the latest moment and the trace included
abbrev pub RefusalsChangeNothing : Type 0
RefusalsChangeNothing =
    (old : State) (event : Event) (errno : Errno) (seen : List Obs) (new : State) →
    Step old event (answers.Refused errno) seen new → (seen ≡ []) × (new ≡ old)

-- the latest moment never goes back
abbrev pub MomentsRise : Type 0
MomentsRise = (old : State) (event : Event) (answer : Answer) (seen : List Obs) (new : State) →
    Step old event answer seen new → old.kernel.latest ≤ new.kernel.latest

-- The law of receivers (sharedsubtree.rst, 5a): no step makes one of two mounts that stood before it
-- receive from the other, unless it did already.
abbrev pub AddsNoReceivers : State → State → Type 0
AddsNoReceivers old new = (b c : ℕ) →
    is_mount old.kernel.table b ≡ true → is_mount old.kernel.table c ≡ true →
    Receives new.kernel.table.groups b c → Receives old.kernel.table.groups b c

-- no step after a run from an initial world adds receivers
abbrev pub StepsAddNoReceivers : Type 0
StepsAddNoReceivers = (opening : Setup) (events : List Event) (answers : List Answer) (old : State) →
    Run (initial_state_of opening) events answers old →
    (event : Event) (answer : Answer) (seen : List Obs) (new : State) →
    Step old event answer seen new → AddsNoReceivers old new

-- a run goes on by a step
abbrev pub RunsGoOn : Type 0
RunsGoOn = (old : State) (events : List Event) (answers : List Answer) (mid : State) →
    Run old events answers mid →
    (event : Event) (answer : Answer) (seen : List Obs) (new : State) → Step mid event answer seen new →
    Run old (events ++ event ∷ []) (answers ++ answer ∷ []) new

-- A mount that goes is one that nobody is inside of; and what stays isn't mounted on it.
abbrev pub UnmountsNothingInUse : State → State → Type 0
UnmountsNothingInUse old new = (m : ℕ) →
    is_mount old.kernel.table m ≡ true → is_mount new.kernel.table m ≡ false →
    (is_used old.kernel.uses m ≡ false)
    × ((c : ℕ) (row : MountRow) → mount_row new.kernel.table.rows c ≡ Some row → IsOn m row → ⊥)

-- no step after a run from an initial world takes a mount that is in use
abbrev pub StepsUnmountNothingInUse : Type 0
StepsUnmountNothingInUse = (opening : Setup) (events : List Event) (answers : List Answer) (old : State) →
    Run (initial_state_of opening) events answers old →
    (event : Event) (answer : Answer) (seen : List Obs) (new : State) →
    Step old event answer seen new → UnmountsNothingInUse old new

-- A walk was seen to pass the trigger, or the daemon to be asked for it; or a walker has collected the
-- status of its wait on it.
abbrev pub IsUseSeen : KernelState → List Obs → Trigger → Type 0
IsUseSeen k seen g =
    ((walker : ℕ) × Contains seen (Passed walker g))
    ⊎ (((token : ℕ) × (attach : ℕ) × (packet : Packet)
    × Contains seen (Queued token attach packet) × (trigger_of packet ≡ g))
    ⊎ ((wait : WaitRow) × (status : Status) × (wait_of k.waits.waits wait.walker ≡ Some wait)
    × (wait.status ≡ Some status) × (wait.trigger ≡ g)))

-- each step tells what uses of triggers it makes
abbrev pub StepsTellUses : Type 0
StepsTellUses = (old : State) (event : Event) (answer : Answer) (seen : List Obs) (new : State) →
    Step old event answer seen new → (g : Trigger) →
    (last_use_of new.kernel.triggers g ≡ last_use_of old.kernel.triggers g) ⊎ IsUseSeen old.kernel seen g
