-- What comes next of a job: own choice (docs/DECISIONS.md, "A directory that is there already
-- counts as made, and one that has gone, or on which something is mounted, as removed").
use Rattle.std.specs.Prelude.{◌≡◌, ℕ, Bool, true, false, Option, Some, None, Result, Ok, Err}
use Rattle.am_names.specs.declared.errno.Errno.{Errno}
use Rattle.am_names.specs.declared.errno.Errno.TheVariants.{ENOENT, EBUSY, EEXIST, NoMemory}
use Rattle.am_job.specs.{Act, Ended, next_of}
use Rattle.am_job.specs.declared.act.Act.TheVariants as act
use Rattle.am_daemon.specs.{DaemonState, JobPlan, job_of, writing_of, finish_refusal}
use Rattle.am_world.specs.declared.acts.ActKind.{ActKind}
use Rattle.am_world.specs.declared.acts.ActKind.TheVariants as act_kind
use Rattle.am_world.specs.declared.acts.NextAct.{NextAct}

-- the act without what it mounts
abbrev pub act_kind_of : Act → ActKind
act_kind_of (act.Mkdir trigger) = act_kind.Mkdir trigger
act_kind_of (act.Mount trigger entry) = act_kind.Mount trigger
act_kind_of (act.Umount trigger) = act_kind.Umount trigger
act_kind_of (act.Rmdir trigger) = act_kind.Rmdir trigger
act_kind_of (act.Record trigger entry) = act_kind.Record trigger entry
act_kind_of (act.Reply status) = act_kind.Reply status

-- what comes next of the job with this next act, if there is one
abbrev pub next_act_by : ℕ → JobPlan → Option Act → Option NextAct
next_act_by job row None = None
next_act_by job row (Some a) = Some (record { job = job; attach = row.attach; act_kind = act_kind_of a })

-- the same of a job that may be missing
abbrev pub next_act_in : ℕ → Option JobPlan → Option NextAct
next_act_in job None = None
next_act_in job (Some row) = next_act_by job row (next_of row.plan)

-- the next act of a job, and the attachment that it carries
abbrev pub next_act_of : ℕ → DaemonState → Option NextAct
next_act_of job d = next_act_in job (job_of d.jobs job)

-- the job, or one that has ended where there is none
abbrev pub row_in : Option JobPlan → JobPlan
row_in None =
    record { token = 0; attach = 0; trigger = record { fs = 0; name = None }; plan = Ended }
row_in (Some row) = row

-- the job, where it is there
abbrev pub row_for : DaemonState → ℕ → JobPlan
row_for d job = row_in (job_of d.jobs job)

-- this comes next of the job
pub record IsNext (coming : NextAct) (act_kind : ActKind) (d : DaemonState) : Type 0 where
  pub comes : next_act_of coming.job d ≡ Some coming
  pub does : coming.act_kind ≡ act_kind

-- there is the job, and its next act writes nothing into the book
pub record IsLean (job : ℕ) (d : DaemonState) : Type 0 where
  pub writes : writing_of job d ≡ None
  pub stands : finish_refusal job d ≡ None

-- ---- errors that are none for a job

-- a directory that is there already counts as made
abbrev pub as_made : Result (Unit {0}) Errno → Result (Unit {0}) Errno
as_made (Ok done) = Ok done
as_made (Err EEXIST) = Ok tt
as_made (Err e) = Err e

-- one that has gone, or on which something is mounted, counts as removed
abbrev pub as_removed : Result (Unit {0}) Errno → Result (Unit {0}) Errno
as_removed (Ok done) = Ok done
as_removed (Err ENOENT) = Ok tt
as_removed (Err EBUSY) = Ok tt
as_removed (Err e) = Err e

-- memory ran out
abbrev pub is_no_memory : Errno → Bool
is_no_memory NoMemory = true
is_no_memory e = false
