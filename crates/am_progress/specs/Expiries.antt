-- What an expiry leaves (autofs.rst, "Mountpoint expiry").
use Rattle.std.specs.Prelude.{◌≡◌, ◌⊎◌, ℕ, false, Some, None, Option}
use Rattle.am_names.specs.declared.fail_no.FailNo.{FailNo}
use Rattle.am_names.specs.{same_trigger}
use Rattle.am_names.specs.declared.trigger.Trigger.{Trigger}
use Rattle.am_state.specs.declared.daemon_row.Record.TheVariants.{Mounted}
use Rattle.am_trigger.specs.{place_of}
use Rattle.am_wait.specs.{token_of}
use Rattle.am_walk.specs.declared.stop.Next.TheVariants as nexts
use Rattle.am_walk.specs.declared.stop.Stop.TheVariants as stops
use Rattle.am_walk.specs.{next_at}
use Rattle.am_kernel.specs.{attach_of, scene_of, location_of, mounted_on}
use Rattle.am_job.specs.{record_of, next_of}
use Rattle.am_job.specs.declared.act.Act.TheVariants as act
use Rattle.am_daemon.specs.{JobPlan, job_of}
use Rattle.am_machine.specs.declared.event.Event.TheVariants as events
use Rattle.am_machine.specs.declared.answer.Answer.TheVariants as answers
use Rattle.am_machine.specs.State.{State}
use Rattle.am_machine.specs.EventOutcome.{EventOutcome}
use Rattle.am_machine.specs.{IsServed, after, outcome_of}
use Rattle.am_progress.specs.Runs.{AfterEachRun}
use Rattle.am_progress.specs.Ways.{LeadsTo}

-- The expiry has failed: all mounts and directories are as before. The mount m is still there, and
-- the book has it as mounted again; of other triggers it says what it said. The token is closed.
pub record IsAsFound (old : State) (token : ℕ) (g : Trigger) (m : ℕ) (new : State) : Type 0 where
  pub table : new.kernel.table ≡ old.kernel.table
  pub triggers : new.kernel.triggers ≡ old.kernel.triggers
  pub mounted : mounted_on new.kernel g ≡ Some m
  pub written : record_of new.daemon.book g ≡ Some (Mounted m)
  pub others : (h : Trigger) → same_trigger g h ≡ false →
      record_of new.daemon.book h ≡ record_of old.daemon.book h
  pub closed : token_of new.kernel.waits.tokens token ≡ None

-- The expiry has come: nothing is mounted on the trigger at the daemon's mount, a walk that comes
-- to it there, at any moment, has the daemon notified, which is still attached, and the token is
-- closed.
pub record IsTrapAgain (attach token : ℕ) (g : Trigger) (new : State) : Type 0 where
  pub free : mounted_on new.kernel g ≡ None
  pub notifies : (moment : ℕ) →
      next_at (scene_of new.kernel moment) (location_of new.kernel g.fs) (place_of g)
      ≡ nexts.Halts (stops.Missing g)
  pub attached : attach_of new.kernel g.fs ≡ Some attach
  pub closed : token_of new.kernel.waits.tokens token ≡ None

-- The unmount has failed or come, as its answer tells: by two acts more in the one case, and by
-- three at most in the other, the job ends so.
abbrev pub EndsWell : State → ℕ → ℕ → Trigger → ℕ → EventOutcome → Type 0
EndsWell s attach token g mount o =
    ((o.answer ≡ answers.FailedUmount) × LeadsTo 2 token (IsAsFound s token g mount) (after s o))
    ⊎ ((o.answer ≡ answers.DidUmount) × LeadsTo 3 token (IsTrapAgain attach token g) (after s o))

-- The job is about to unmount what is mounted on its trigger: it ends well, whatever failure is told.
pub record IsExpiry (s : State) (attach token : ℕ) (g : Trigger) : Type 0 where
  pub mount : ℕ
  pub stands : mounted_on s.kernel g ≡ Some mount
  pub ends : (failure : Option FailNo) → EndsWell s attach token g mount (outcome_of s (events.Act token failure))

-- so it is of each job that is about to unmount, under the attachment that the daemon holds
abbrev pub ExpiriesEndWell : State → Type 0
ExpiriesEndWell s =
    (fs attach : ℕ) → IsServed s.kernel s.daemon fs attach →
    (job : ℕ) (row : JobPlan) → job_of s.daemon.jobs job ≡ Some row →
    row.trigger.fs ≡ fs → row.attach ≡ attach → next_of row.plan ≡ Some (act.Umount row.trigger) →
    IsExpiry s attach job row.trigger

-- after every run from an initial world an expiry leaves the trap or the mount
abbrev pub ExpiriesLeaveTrapOrMount : Type 0
ExpiriesLeaveTrapOrMount = AfterEachRun ExpiriesEndWell
