-- What is mounted on the triggers, at the daemon's mounts, and what the daemon knows of it (own
-- choice).
use Rattle.std.specs.Prelude.{◌≡◌, ℕ, true, false, is_some, List, Some}
use Rattle.am_names.specs.declared.trigger.Trigger.{Trigger}
use Rattle.am_names.specs.{MountRow}
use Rattle.am_mount.specs.{mount_row, IsAt}
use Rattle.am_trigger.specs.{Autofs, autofs_of, trigger_in}
use Rattle.am_job.specs.{claims, record_of}
use Rattle.am_kernel.specs.{KernelState, mounted_on}
use Rattle.am_daemon.specs.{DaemonState, JobPlan, job_of, is_pending, mounted_in}
use Rattle.am_machine.specs.Invariant.Planned.{has_record_left}
use Rattle.am_machine.specs.Invariant.Books.{IsServed}

-- ---- what is mounted on a trigger at the daemon's mount, while the daemon serves its file system

-- while a job has still to write the book, what its acts that are left claim
abbrev pub AreClaimed : KernelState → DaemonState → Type 0
AreClaimed k d = (fs attach : ℕ) → IsServed k d fs attach → (job : ℕ) (row : JobPlan) →
    job_of d.jobs job ≡ Some row → row.trigger.fs ≡ fs → row.attach ≡ attach →
    has_record_left row.plan ≡ true → mounted_on k row.trigger ≡ claims row.plan

-- else what the book says
abbrev pub AreWritten : KernelState → DaemonState → Type 0
AreWritten k d = (fs attach : ℕ) → IsServed k d fs attach → (g : Trigger) → g.fs ≡ fs →
    is_pending (record_of d.book g) ≡ false → mounted_on k g ≡ mounted_in (record_of d.book g)

-- what is mounted on the daemon's mount of an autofs is at the place of one of its triggers
pub record OnTriggers (k : KernelState) : Type 0 where
  pub on : (fs : ℕ) (a : Autofs) → autofs_of k.triggers fs ≡ Some a →
      (m : ℕ) (row : MountRow) (place : List (List ℕ)) →
      mount_row k.table.rows m ≡ Some row → IsAt a.location place row →
      is_some (trigger_in a place) ≡ true

-- on the triggers that the daemon serves is mounted what its jobs claim, and else what the book
-- says
pub record TriggerMountsAgree (k : KernelState) (d : DaemonState) : Type 0 where
  pub at_work : AreClaimed k d
  pub settled : AreWritten k d
  -- a daemon that attaches again finds what is mounted by the triggers
  pub on_triggers : OnTriggers k
