-- What the daemon's book says while a job is at work (own choice).
use Rattle.std.specs.Prelude.{◌≡◌, ◌≤◌, ℕ, ◌==◌, Bool, false, ◌&&◌, map, Option, Some, None}
use Rattle.std.specs.List.{All}
use Rattle.am_names.specs.{same_trigger}
use Rattle.am_names.specs.declared.trigger.Trigger.{Trigger}
use Rattle.am_state.specs.{HeldRow, Record}
use Rattle.am_state.specs.declared.daemon_row.Record.TheVariants.{Mounting, Mounted, Unmounting}
use Rattle.am_job.specs.{record_of}
use Rattle.am_kernel.specs.{KernelState, attach_of}
use Rattle.am_daemon.specs.{DaemonState, JobPlan, attach_held, job_of}
use Rattle.am_machine.specs.Invariant.Traces.{AreDifferent}
use Rattle.am_machine.specs.Invariant.Planned.{has_record_left}

-- The daemon serves the file system: it holds the attachment that the kernel has of it.
pub record IsServed (k : KernelState) (d : DaemonState) (fs attach : ℕ) : Type 0 where
  pub current : attach_of k fs ≡ Some attach
  pub held : attach_held d fs ≡ Some attach

-- the record is pending for this token
abbrev pub is_pending_for : ℕ → Option Record → Bool
is_pending_for token None = false
is_pending_for token (Some (Mounting other)) = other == token
is_pending_for token (Some (Mounted mount)) = false
is_pending_for token (Some (Unmounting other mount)) = other == token

-- the job is this attachment's, on this trigger, and the book is still to be written
abbrev pub is_to_record : ℕ → Trigger → Option JobPlan → Bool
is_to_record attach g None = false
is_to_record attach g (Some row) =
    row.attach == attach && same_trigger row.trigger g && has_record_left row.plan

-- ---- the book

-- a record is pending just where its job has still to write it
abbrev pub ArePending : KernelState → DaemonState → Type 0
ArePending k d = (fs attach : ℕ) → IsServed k d fs attach → (g : Trigger) → g.fs ≡ fs → (token : ℕ) →
    is_pending_for token (record_of d.book g) ≡ is_to_record attach g (job_of d.jobs token)

-- the book agrees with the jobs, and each attachment held is of another file system
pub record BookAgrees (k : KernelState) (d : DaemonState) : Type 0 where
  pub pending : ArePending k d
  -- the daemon holds one attachment at most of each file system, of those that were given
  pub held : AreDifferent (map (λ (row : HeldRow). row.fs) d.held)
  pub given : All (λ (row : HeldRow). row.fs ≤ k.last_fs) d.held
