-- What an expiry leaves, whatever others do between the acts of its job (autofs.rst, "Mountpoint
-- expiry").
use Rattle.std.specs.Prelude.{◌≡◌, ◌⊎◌, ℕ, zero, suc, Some, None, Option}
use Rattle.am_names.specs.declared.fail_no.FailNo.{FailNo}
use Rattle.am_names.specs.declared.trigger.Trigger.{Trigger}
use Rattle.am_state.specs.declared.daemon_row.Record.TheVariants.{Mounted}
use Rattle.am_wait.specs.{token_of}
use Rattle.am_kernel.specs.{mounted_on}
use Rattle.am_job.specs.{record_of, next_of}
use Rattle.am_job.specs.declared.act.Act.TheVariants as act
use Rattle.am_daemon.specs.{JobPlan, job_of}
use Rattle.am_machine.specs.declared.event.Event.TheVariants as events
use Rattle.am_machine.specs.declared.answer.Answer.TheVariants as answers
use Rattle.am_machine.specs.State.{State}
use Rattle.am_machine.specs.EventOutcome.{EventOutcome}
use Rattle.am_machine.specs.{IsServed, after, outcome_of}
use Rattle.am_progress.specs.Runs.{AfterEachRun, IsDone, next}
use Rattle.am_progress.specs.Expiries.{IsTrapAgain}
use Rattle.am_progress.specs.Others.{OthersAct}

-- So many acts of the job at most lead to such a world: it is one already, or the next act isn't refused,
-- whatever others have done before it, and with either word the acts after it lead there.
abbrev pub LeadsAmong : ℕ → ℕ → ℕ → ℕ → (State → Type 0) → State → Type 0
LeadsAmong zero fs attach job goal s = goal s
LeadsAmong (suc acts) fs attach job goal s =
    goal s
    ⊎ ((mid : State) → OthersAct fs attach job s mid → (failure : Option FailNo) →
    IsDone mid (events.Act job failure)
    × LeadsAmong acts fs attach job goal (next mid (events.Act job failure)))

-- The expiry has failed: the mount m is on the trigger still, at the daemon's mount, and the book has it
-- as mounted again. The token is closed.
pub record IsStillMounted (token : ℕ) (g : Trigger) (m : ℕ) (new : State) : Type 0 where
  pub mounted : mounted_on new.kernel g ≡ Some m
  pub written : record_of new.daemon.book g ≡ Some (Mounted m)
  pub closed : token_of new.kernel.waits.tokens token ≡ None

-- The unmount has failed or come, as its answer tells: by two acts more in the one case, and by three at
-- most in the other, the job ends so.
abbrev pub EndsAmong : ℕ → ℕ → ℕ → Trigger → ℕ → State → EventOutcome → Type 0
EndsAmong fs attach token g mount s o =
    ((o.answer ≡ answers.FailedUmount)
    × LeadsAmong 2 fs attach token (IsStillMounted token g mount) (after s o))
    ⊎ ((o.answer ≡ answers.DidUmount)
    × LeadsAmong 3 fs attach token (IsTrapAgain attach token g) (after s o))

-- The job is about to unmount this mount, and it is so whatever others do before: it ends well then,
-- whatever failure is told.
pub record IsExpiryAmong (s : State) (fs attach token : ℕ) (g : Trigger) : Type 0 where
  pub mount : ℕ
  pub stands : mounted_on s.kernel g ≡ Some mount
  pub ends : (mid : State) → OthersAct fs attach token s mid →
      (mounted_on mid.kernel g ≡ Some mount)
      × ((failure : Option FailNo) →
      EndsAmong fs attach token g mount mid (outcome_of mid (events.Act token failure)))

-- so it is of each job that is about to unmount, under the attachment that the daemon holds
abbrev pub ExpiriesEndAmong : State → Type 0
ExpiriesEndAmong s =
    (fs attach : ℕ) → IsServed s.kernel s.daemon fs attach →
    (job : ℕ) (row : JobPlan) → job_of s.daemon.jobs job ≡ Some row →
    row.trigger.fs ≡ fs → row.attach ≡ attach → next_of row.plan ≡ Some (act.Umount row.trigger) →
    IsExpiryAmong s fs attach job row.trigger

-- after every run from an initial world an expiry leaves the trap or the mount, among others
abbrev pub ExpiriesEndAmongOthers : Type 0
ExpiriesEndAmongOthers = AfterEachRun ExpiriesEndAmong
