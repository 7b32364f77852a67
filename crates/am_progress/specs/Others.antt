-- What others do in between takes nothing away: a job keeps what it has left, the daemon serves the
-- file system until it is seen to lose it, and so each open token can be closed among all that
-- others do (own choice).
use Rattle.std.specs.Prelude.{◌≡◌, ◌⊎◌, ℕ, zero, suc, ◌==◌, Bool, true, false, is_some, List, Some, None, if◌then◌else◌, Option}
use Rattle.std.specs.List.{list_any}
use Rattle.am_names.specs.declared.fail_no.FailNo.{FailNo}
use Rattle.am_names.specs.{OpenToken, WaitRow}
use Rattle.am_wait.specs.{token_of, wait_of}
use Rattle.am_state.specs.{Obs}
use Rattle.am_state.specs.declared.obs.Obs.TheVariants.{Catatonic, Died}
use Rattle.am_kernel.specs.{queued_of}
use Rattle.am_daemon.specs.{JobPlan, job_of}
use Rattle.am_machine.specs.{Event, Answer, HavePaths, Step, Run, IsServed}
use Rattle.am_machine.specs.declared.event.Event.TheVariants as events
use Rattle.am_machine.specs.State.{State}
use Rattle.am_progress.specs.Runs.{AfterEachRun, IsDone, next}

-- ---- what a job has left

-- the event is an act of this job
abbrev pub is_act_of : ℕ → Event → Bool
is_act_of job (events.Act other failure) = other == job
is_act_of job _ = false

-- no step but an act of the job itself changes what it has left
abbrev pub JobsStay : Type 0
JobsStay =
    (old : State) (event : Event) (answer : Answer) (seen : List Obs) (new : State) →
    Step old event answer seen new → (job : ℕ) (row : JobPlan) → is_act_of job event ≡ false →
    job_of old.daemon.jobs job ≡ Some row → job_of new.daemon.jobs job ≡ Some row

-- ---- how long the daemon serves a file system

-- the file system becomes catatonic, or the daemon dies
abbrev pub ends : ℕ → Obs → Bool
ends fs (Catatonic other) = other == fs
ends fs Died = true
ends fs _ = false

-- it serves the file system on after each step, unless such an end was seen
abbrev pub ServesOn : State → Type 0
ServesOn old =
    (fs attach : ℕ) → IsServed old.kernel old.daemon fs attach →
    (event : Event) (answer : Answer) (seen : List Obs) (new : State) →
    Step old event answer seen new →
    IsServed new.kernel new.daemon fs attach ⊎ (list_any (ends fs) seen ≡ true)

-- after every run from an initial world service lasts until its end is seen
abbrev pub ServiceLasts : Type 0
ServiceLasts = AfterEachRun ServesOn

-- ---- an open token

-- Others act: what they do is no act of this job, and the daemon serves the file system still.
pub record OthersAct (fs attach job : ℕ) (old new : State) : Type 0 where
  pub events : List Event
  pub answers : List Answer
  pub paths : HavePaths events
  pub others : list_any (is_act_of job) events ≡ false
  pub run : Run old events answers new
  pub served : IsServed new.kernel new.daemon fs attach

-- The token is closed, and nobody waits on it any more.
pub record IsClosed (token : ℕ) (s : State) : Type 0 where
  pub closed : token_of s.kernel.waits.tokens token ≡ None
  pub unawaited : (walker : ℕ) (row : WaitRow) →
      wait_of s.kernel.waits.waits walker ≡ Some row → row.token ≡ token → row.status ≡ None → ⊥

-- the daemon's next event about a token: it takes the packet from the pipe, or its job acts
abbrev pub event_about : ℕ → Option FailNo → State → Event
event_about token failure s =
    if is_some (queued_of s.kernel.queue token) then events.Deliver token None
    else events.Act token failure

-- So many events of the daemon at most close the token: whatever others have done before the next
-- one, the token is closed, or that event isn't refused, and those after it close the token.
abbrev pub ClosesAmong : ℕ → ℕ → ℕ → ℕ → State → Type 0
ClosesAmong zero fs attach token s =
    (mid : State) → OthersAct fs attach token s mid → IsClosed token mid
ClosesAmong (suc more) fs attach token s =
    (mid : State) → OthersAct fs attach token s mid →
    IsClosed token mid
    ⊎ ((failure : Option FailNo) → IsDone mid (event_about token failure mid)
    × ClosesAmong more fs attach token (next mid (event_about token failure mid)))

-- six are enough for each open token of a file system that the daemon serves
abbrev pub TokensCloseAmong : State → Type 0
TokensCloseAmong s =
    (fs attach : ℕ) → IsServed s.kernel s.daemon fs attach →
    (token : ℕ) (row : OpenToken) → token_of s.kernel.waits.tokens token ≡ Some row →
    row.trigger.fs ≡ fs → ClosesAmong 6 fs attach token s

-- after every run from an initial world open tokens can be closed among others
abbrev pub OpenTokensCloseAmongOthers : Type 0
OpenTokensCloseAmongOthers = AfterEachRun TokensCloseAmong
