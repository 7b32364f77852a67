-- The machine: its steps and its runs (own choice).
use Rattle.std.specs.Prelude.{◌≡◌, ◌⊎◌, List, [], ◌∷◌, ◌++◌}
use Rattle.am_names.specs.declared.errno.Errno.TheVariants.{NoMemory}
use Rattle.am_state.specs.{Obs}
use Rattle.am_machine.specs.declared.event.Event.{Event}
use Rattle.am_machine.specs.declared.event.Event.TheVariants as events
use Rattle.am_machine.specs.declared.answer.Answer.{Answer}
use Rattle.am_machine.specs.declared.answer.Answer.TheVariants as answers
use Rattle.am_machine.specs.declared.entry.Entry.{Entry}
use Rattle.am_machine.specs.History.{events_of, answers_of}
use Rattle.am_machine.specs.State.{State, setup_of, initial_state_of}
use Rattle.am_machine.specs.EventOutcome.{EventOutcome}
use Rattle.am_machine.specs.Events.Administration.{attach_outcome, mount_outcome, bind_outcome, umount_outcome, change_outcome, kind_outcome, copy_outcome, drop_outcome}
use Rattle.am_machine.specs.Events.Walkers.{walk_outcome, resume_outcome, leave_outcome, expire_outcome}
use Rattle.am_machine.specs.Events.Deliveries.{deliver_outcome}
use Rattle.am_machine.specs.Events.Acts.{act_outcome}
use Rattle.am_machine.specs.Events.Requests.{repeat_outcome, catatonic_outcome, admin_catatonic_outcome, timeout_outcome, die_outcome, reattach_outcome, record_outcome}

-- what an event comes to, one line an event
abbrev pub outcome_of : State → Event → EventOutcome
outcome_of s (events.Attach path) = attach_outcome s path
outcome_of s (events.Mount ns path) = mount_outcome s ns path
outcome_of s (events.Bind ns from to) = bind_outcome s ns from to
outcome_of s (events.Umount ns path) = umount_outcome s ns path
outcome_of s (events.Change ns path change) = change_outcome s ns path change
outcome_of s (events.Kind ns path) = kind_outcome s ns path
outcome_of s (events.CopyNamespace ns form) = copy_outcome s ns form
outcome_of s (events.DropNamespace ns) = drop_outcome s ns
outcome_of s (events.Walk walker ns path now pipe) = walk_outcome s walker ns path now pipe
outcome_of s (events.Resume walker now pipe) = resume_outcome s walker now pipe
outcome_of s (events.Leave walker) = leave_outcome s walker
outcome_of s (events.Expire walker fs now immediate pipe) = expire_outcome s walker fs now immediate pipe
outcome_of s (events.Deliver token bytes) = deliver_outcome s token bytes
outcome_of s (events.Act job failure) = act_outcome s job failure
outcome_of s (events.Repeat attach token status) = repeat_outcome s attach token
outcome_of s (events.Catatonic attach fs) = catatonic_outcome s attach fs
outcome_of s (events.AdminCatatonic fs) = admin_catatonic_outcome s fs
outcome_of s (events.Timeout attach fs timeout) = timeout_outcome s attach fs timeout
outcome_of s events.Die = die_outcome s
outcome_of s (events.Reattach fs) = reattach_outcome s fs
outcome_of s (events.Record trigger) = record_outcome s trigger

-- the state after an outcome: what was seen stands at the end of the trace
abbrev pub after : State → EventOutcome → State
after s o = record o.state { trace = s.trace ++ o.seen }

-- out of memory, nothing has changed
pub record RanOut (old : State) (answer : Answer) (seen : List Obs) (new : State) : Type 0 where
  pub told : answer ≡ answers.Refused NoMemory
  pub nothing : seen ≡ []
  pub same : new ≡ old

-- the outcome has come
pub record Comes (o : EventOutcome) (old : State) (answer : Answer) (seen : List Obs) (new : State) : Type 0 where
  pub told : answer ≡ o.answer
  pub shown : seen ≡ o.seen
  pub left : new ≡ after old o

-- From old, the event may have this answer, with these observations, and lead to new.
abbrev pub Step : State → Event → Answer → List Obs → State → Type 0
Step old event answer seen new = RanOut old answer seen new ⊎ Comes (outcome_of old event) old answer seen new

-- A run has an answer for each event, one step after another.
abbrev pub Run : State → List Event → List Answer → State → Type 0
Run old [] [] new = new ≡ old
Run old (event ∷ events) (answer ∷ answers) new =
    (mid : State) × (seen : List Obs) × Step old event answer seen mid × Run mid events answers new
Run old [] (answer ∷ answers) new = ⊥
Run old (event ∷ events) [] new = ⊥

-- A history is legal for a world where it is a run from the initial world that ends there.
abbrev pub IsLegal : List Entry → State → Type 0
IsLegal history s = Run (initial_state_of (setup_of s)) (events_of history) (answers_of history) s

-- Each legal history of the old world goes on by these entries to one of the new world.
abbrev pub GoesOnBy : List Entry → State → State → Type 0
GoesOnBy more old new = (history : List Entry) → IsLegal history old → IsLegal (history ++ more) new
