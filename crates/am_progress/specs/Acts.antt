-- The next act of a job is done, or it fails; and a job has five acts at most. Since the first is
-- said of every world, it doesn't matter what others have done since the job's last act (own
-- choice).
use Rattle.std.specs.Prelude.{◌≡◌, ◌⊎◌, ⊤, ℕ, zero, suc, ◌==◌, false, All, Option, Some, None, if◌then◌else◌}
use Rattle.am_names.specs.declared.fail_no.FailNo.{FailNo}
use Rattle.am_wire.specs.{Packet}
use Rattle.am_job.specs.{Act, Plan, Ended, Next, next_of}
use Rattle.am_job.specs.declared.act.Act.TheVariants as act
use Rattle.am_job.specs.declared.act.Outcome as outcomes
use Rattle.am_job.specs.declared.act.Outcome.TheVariants.{Done, Made, Failed}
use Rattle.am_daemon.specs.{DaemonState, JobPlan, walked, is_ended, job_of, plan_of_packet}
use Rattle.am_machine.specs.declared.event.Event.TheVariants as events
use Rattle.am_machine.specs.{Answer, IsServed, outcome_of}
use Rattle.am_machine.specs.declared.answer.Answer.TheVariants as answers
use Rattle.am_machine.specs.State.{State}
use Rattle.am_machine.specs.EventOutcome.{EventOutcome}
use Rattle.am_progress.specs.Runs.{AfterEachRun}

-- ---- the next act

-- What is answered when this has come of an act: a mount and an unmount are done or have failed,
-- and the others are done.
abbrev pub TellsOf : Act → outcomes.Outcome → Answer → Type 0
TellsOf (act.Mkdir trigger) came answer = (came ≡ Done) × (answer ≡ answers.DidMkdir)
TellsOf (act.Mount trigger entry) came answer =
    ((mount : ℕ) × (came ≡ Made mount) × (answer ≡ answers.DidMount mount))
    ⊎ ((error : FailNo) × (came ≡ Failed error) × (answer ≡ answers.FailedMount))
TellsOf (act.Umount trigger) came answer =
    ((came ≡ Done) × (answer ≡ answers.DidUmount))
    ⊎ ((error : FailNo) × (came ≡ Failed error) × (answer ≡ answers.FailedUmount))
TellsOf (act.Rmdir trigger) came answer = (came ≡ Done) × (answer ≡ answers.DidRmdir)
TellsOf (act.Record trigger entry) came answer = (came ≡ Done) × (answer ≡ answers.DidRecord)
TellsOf (act.Reply status) came answer = (came ≡ Done) × (answer ≡ answers.DidReply)

-- a mount and an unmount of which the event tells a failure fail so
abbrev pub FailsAs : Act → Option FailNo → outcomes.Outcome → Type 0
FailsAs (act.Mount trigger entry) (Some error) came = came ≡ Failed error
FailsAs (act.Umount trigger) (Some error) came = came ≡ Failed error
FailsAs a failure came = ⊤

-- the job with what it has left when this has come of its next act; none where that is nothing
abbrev pub goes_on_as : outcomes.Outcome → JobPlan → Option JobPlan
goes_on_as came row = if is_ended (walked came row) then None else Some (walked came row)

-- The job's next act is done or has failed, as the answer tells, and by the failure that is told, if any
-- is; the job goes on with what is left then, or it ends; and each other job is as before.
pub record IsActed (job : ℕ) (row : JobPlan) (failure : Option FailNo) (old : DaemonState)
    (o : EventOutcome) : Type 0 where
  pub act : Act
  pub is_next : next_of row.plan ≡ Some act
  pub came : outcomes.Outcome
  pub told : TellsOf act came o.answer
  pub fails : FailsAs act failure came
  pub left : job_of o.state.daemon.jobs job ≡ goes_on_as came row
  pub others : (other : ℕ) → (other == job) ≡ false →
      job_of o.state.daemon.jobs other ≡ job_of old.jobs other

-- so it is of each job under the attachment that the daemon holds, whatever failure the event tells
abbrev pub JobsCanGoOn : State → Type 0
JobsCanGoOn s =
    (fs attach : ℕ) → IsServed s.kernel s.daemon fs attach →
    (job : ℕ) (row : JobPlan) → job_of s.daemon.jobs job ≡ Some row →
    row.trigger.fs ≡ fs → row.attach ≡ attach →
    (failure : Option FailNo) →
    IsActed job row failure s.daemon (outcome_of s (events.Act job failure))

-- after every run from an initial world no next act is refused
abbrev pub NextActsAreNeverRefused : Type 0
NextActsAreNeverRefused = AfterEachRun JobsCanGoOn

-- ---- how many there are

-- whatever comes of the acts, there are so many at most
abbrev pub HasActs : ℕ → Plan → Type 0
HasActs most Ended = ⊤
HasActs zero (Next a rest) = ⊥
HasActs (suc most) (Next a rest) = (o : outcomes.Outcome) → HasActs most (rest o)

-- an indirect trigger's mount that fails has the most: the directory is made, the mount fails, the
-- directory is removed, that there is no mount is written down, and the token is acknowledged
abbrev pub most_acts : ℕ
most_acts = 5

-- whatever comes of them, the job has five acts at most
abbrev pub HasFewActs : JobPlan → Type 0
HasFewActs row = HasActs most_acts row.plan

-- so many has each plan that a packet gets, and no job ever has more left
pub record JobsHaveFiveActs : Type 0 where
  pub attempts : (d : DaemonState) (packet : Packet) → HasActs most_acts (plan_of_packet d packet)
  pub each : AfterEachRun (λ s. All HasFewActs s.daemon.jobs)
