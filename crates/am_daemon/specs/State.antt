-- The daemon as a value (autofs.rst, "Communicating with autofs: the event pipe"; what it keeps is
-- an own choice, docs/DECISIONS.md, "The daemon records before it replies").
use Rattle.std.specs.Prelude.{◌≡◌, ◌≤◌, ℕ, List, [], map}
use Rattle.am_names.specs.declared.trigger.Trigger.{Trigger}
use Rattle.am_map.specs.{Row}
use Rattle.am_master.specs.MasterRow.{MasterRow}
use Rattle.am_state.specs.{KnownRow, HeldRow, RecordRow}
use Rattle.am_job.specs.{JobState, plan_of, Plan}

-- a job by the acts that it has left
pub record JobPlan : Type 0 where
  -- the number of the packet's token
  pub token : ℕ
  -- the attachment under which the packet was queued
  pub attach : ℕ
  pub trigger : Trigger
  pub plan : Plan

-- the daemon: what it serves, what it is attached to, what it wrote down, and what it does
pub record DaemonState : Type 0 where
  -- the lines of the master map, and the rows of the map of each
  pub master : List MasterRow
  pub maps : List (List Row)
  -- the file systems that it was ever attached to, in order of attaching
  pub known : List KnownRow
  -- the attachments that it holds, in order of attaching
  pub held : List HeldRow
  -- in order of making
  pub book : List RecordRow
  -- in order of delivery
  pub jobs : List JobPlan

-- The same as it is kept, and the room in it. A plan is a tree with a branch for each number of a
-- mount, so the value of a type keeps a job as `am_job` has it.
pub record DaemonTable : Type 0 where
  pub master : List MasterRow
  pub maps : List (List Row)
  pub known : List KnownRow
  pub held : List HeldRow
  pub book : List RecordRow
  pub jobs : List JobState
  -- how many more attachments take no memory
  pub attach_room : ℕ

-- a job that is kept, by the acts that it has left
abbrev pub job_plan : JobState → JobPlan
job_plan job = record {
  token = job.token;
  attach = job.attach;
  trigger = job.trigger;
  plan = plan_of job;
}

-- the daemon as what it keeps says
abbrev pub rows_of : DaemonTable → DaemonState
rows_of t = record {
  master = t.master;
  maps = t.maps;
  known = t.known;
  held = t.held;
  book = t.book;
  jobs = map job_plan t.jobs;
}

-- a copy: the same but for the room, which is no less
abbrev pub IsCopy : DaemonTable → DaemonTable → Type 0
IsCopy old new = (record new { attach_room = old.attach_room } ≡ old) × (old.attach_room ≤ new.attach_room)

-- of this master map and these maps; nothing is attached, and the book is empty
abbrev pub initial : List MasterRow → List (List Row) → DaemonState
initial master maps = record {
  master = master;
  maps = maps;
  known = [];
  held = [];
  book = [];
  jobs = [];
}
