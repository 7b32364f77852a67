-- The daemon's jobs go on, act by act (autofs.rst, "Communicating with autofs: the event pipe").
use Rattle.std.specs.Prelude.{◌≡◌, ℕ, ◌==◌, Bool, false, not, is_some, List, [], ◌∷◌, Option, Some, None, if◌then◌else◌}
use Rattle.am_names.specs.declared.errno.Errno.{Errno}
use Rattle.am_names.specs.declared.errno.Errno.TheVariants.{EPERM, EINVAL}
use Rattle.am_state.specs.{RecordRow}
use Rattle.am_job.specs.{Act, Outcome, recorded, next_of, rest_of}
use Rattle.am_job.specs.declared.act.Act.TheVariants as act
use Rattle.am_daemon.specs.declared.acts.Writing.{Writing}
use Rattle.am_daemon.specs.Attachments.{holds}
use Rattle.am_daemon.specs.Deliveries.{job_of}
use Rattle.am_daemon.specs.State.{DaemonState, JobPlan}

-- the act of the job, if there is one, that comes next
abbrev pub next_in : Option JobPlan → Option Act
next_in None = None
next_in (Some row) = next_of row.plan

-- the act of a job that comes next
abbrev pub next_act_of : ℕ → DaemonState → Option Act
next_act_of job d = next_in (job_of d.jobs job)

-- what an act writes into the book
abbrev pub writes : Option Act → Option Writing
writes None = None
writes (Some (act.Mkdir trigger)) = None
writes (Some (act.Mount trigger entry)) = None
writes (Some (act.Umount trigger)) = None
writes (Some (act.Rmdir trigger)) = None
writes (Some (act.Record trigger entry)) = Some (record { trigger = trigger; entry = entry })
writes (Some (act.Reply status)) = None

-- what the next act of a job writes into the book
abbrev pub writing_of : ℕ → DaemonState → Option Writing
writing_of job d = writes (next_act_of job d)

-- to forget takes no memory
abbrev pub takes_memory : Option Writing → Bool
takes_memory None = false
takes_memory (Some writing) = is_some writing.entry

-- who writes into the book holds the job's attachment
abbrev pub writing_refusal : Option Writing → JobPlan → DaemonState → Option Errno
writing_refusal None row d = None
writing_refusal (Some writing) row d =
    if holds d row.trigger.fs row.attach then None else Some EPERM

-- there is a job, and it may write what its next act writes
abbrev pub refusal_in : Option JobPlan → DaemonState → Option Errno
refusal_in None d = Some EINVAL
refusal_in (Some row) d = writing_refusal (writes (next_of row.plan)) row d

-- the tests of `finish_act`: there is the job, and it may write what its next act writes
abbrev pub finish_refusal : ℕ → DaemonState → Option Errno
finish_refusal job d = refusal_in (job_of d.jobs job) d

-- the book after this was written
abbrev pub book_after : Option Writing → List RecordRow → List RecordRow
book_after None book = book
book_after (Some writing) book = recorded writing.trigger writing.entry book

-- the job has left what comes after its next act, of which this came
abbrev pub walked : Outcome → JobPlan → JobPlan
walked outcome row = record row { plan = rest_of outcome row.plan }

-- it has no act left
abbrev pub is_ended : JobPlan → Bool
is_ended row = not (is_some (next_of row.plan))

-- a job that has ended is gone
abbrev pub going : JobPlan → List JobPlan → List JobPlan
going row jobs = if is_ended row then jobs else row ∷ jobs

-- the job of this number goes on, and the others stay
abbrev pub finished_in : ℕ → Outcome → List JobPlan → List JobPlan
finished_in job outcome [] = []
finished_in job outcome (row ∷ jobs) =
    if row.token == job then going (walked outcome row) jobs else row ∷ finished_in job outcome jobs

-- the next act of the job is done, and the book says what it writes
abbrev pub finished : ℕ → Outcome → DaemonState → DaemonState
finished job outcome d =
    record d {
      book = book_after (writing_of job d) d.book;
      jobs = finished_in job outcome d.jobs;
    }

-- each other job is as before
abbrev pub OthersStay : ℕ → List JobPlan → List JobPlan → Type 0
OthersStay job old new = (j : ℕ) → (j == job) ≡ false → job_of new j ≡ job_of old j
