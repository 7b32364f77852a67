-- What kernel and daemon agree on, of each file system that the daemon serves (own choice).
use Rattle.std.specs.Prelude.{◌≡◌, ◌⊎◌, ◌<◌, ℕ, true, List, Some, None}
use Rattle.am_names.specs.declared.trigger.Trigger.{Trigger}
use Rattle.am_names.specs.{OpenToken}
use Rattle.am_group.specs.{Receives}
use Rattle.am_wait.specs.{token_of}
use Rattle.am_trigger.specs.{place_of}
use Rattle.am_state.specs.{Record, QueuedRow}
use Rattle.am_state.specs.declared.daemon_row.Record.TheVariants.{Mounted}
use Rattle.am_kernel.specs.{KernelState, location_of, mounted_on, queued_of}
use Rattle.am_job.specs.{record_of, AcknowledgesLast}
use Rattle.am_daemon.specs.{DaemonState, JobPlan, job_of}
use Rattle.am_machine.specs.declared.event.Event.{Event}
use Rattle.am_machine.specs.declared.answer.Answer.{Answer}
use Rattle.am_machine.specs.State.{Setup, State, initial_state_of}
use Rattle.am_machine.specs.Paths.{HavePaths}
use Rattle.am_machine.specs.Machine.{Run}
use Rattle.am_machine.specs.Invariant.Books.{IsServed, is_pending_for}
use Rattle.am_machine.specs.Invariant.Places.{HasCopy}
use Rattle.am_machine.specs.Invariant.Records.{is_of_kind}

-- The mount stands on the trigger at the daemon's mount, and a copy of it on each older mount that
-- receives from that one.
pub record IsMounted (k : KernelState) (g : Trigger) (m : ℕ) : Type 0 where
  pub here : mounted_on k g ≡ Some m
  pub copied : (y : ℕ) → Receives k.table.groups (location_of k g.fs) y → y < m →
      HasCopy k.table.rows y (place_of g) m

-- A job of this attachment is at work on the trigger. Its token is open, asks for the trigger, and is
-- of the kind that the record tells.
pub record IsPending (k : KernelState) (d : DaemonState) (current : ℕ) (g : Trigger) (entry : Record) (token : ℕ) : Type 0 where
  pub job : JobPlan
  pub is_job : job_of d.jobs token ≡ Some job
  pub attach : job.attach ≡ current
  pub trigger : job.trigger ≡ g
  pub row : OpenToken
  pub is_open : token_of k.waits.tokens token ≡ Some row
  pub asks : row.trigger ≡ g
  pub kind : is_of_kind row.kind entry ≡ true

-- The token's packet is in the pipe of this attachment, and no job has taken it up.
pub record IsToDeliver (k : KernelState) (d : DaemonState) (current token : ℕ) : Type 0 where
  pub row : QueuedRow
  pub is_queued : queued_of k.queue token ≡ Some row
  pub attach : row.attach ≡ current
  pub untaken : job_of d.jobs token ≡ None

-- A job of this attachment has the token, and has still to acknowledge it. The packet is in no pipe.
pub record IsToAnswer (k : KernelState) (d : DaemonState) (current token : ℕ) : Type 0 where
  pub job : JobPlan
  pub is_job : job_of d.jobs token ≡ Some job
  pub attach : job.attach ≡ current
  pub left : AcknowledgesLast job.plan
  pub unqueued : queued_of k.queue token ≡ None

-- A file system that the daemon serves under this attachment.
pub record AgreeOn (k : KernelState) (d : DaemonState) (fs attach : ℕ) : Type 0 where
  -- what the book says to be mounted is mounted, and has its copies
  pub mounted : (g : Trigger) (m : ℕ) → g.fs ≡ fs →
      record_of d.book g ≡ Some (Mounted m) → IsMounted k g m
  -- where it says that a mount or an unmount goes on, a job is at work
  pub pending : (g : Trigger) (entry : Record) (token : ℕ) → g.fs ≡ fs → record_of d.book g ≡ Some entry →
      is_pending_for token (Some entry) ≡ true → IsPending k d attach g entry token
  -- where it says nothing, nothing is mounted
  pub unrecorded : (g : Trigger) → g.fs ≡ fs → record_of d.book g ≡ None → mounted_on k g ≡ None
  -- each open token is to be delivered, or to be answered, and not both
  pub tokens : (token : ℕ) (row : OpenToken) →
      token_of k.waits.tokens token ≡ Some row → row.trigger.fs ≡ fs →
      IsToDeliver k d attach token ⊎ IsToAnswer k d attach token

-- of every file system that the daemon serves
abbrev pub Agree : State → Type 0
Agree s = (fs attach : ℕ) → IsServed s.kernel s.daemon fs attach →
    AgreeOn s.kernel s.daemon fs attach

-- every run from an initial world leaves kernel and daemon agreed
abbrev pub RunsAgree : Type 0
RunsAgree = (opening : Setup) (events : List Event) (answers : List Answer) (s : State) →
    HavePaths events → Run (initial_state_of opening) events answers s → Agree s
