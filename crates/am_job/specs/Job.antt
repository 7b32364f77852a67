-- A job: what the daemon does for one packet (autofs.rst, "Communicating with autofs: the event
-- pipe").
use Rattle.std.specs.Prelude.{ℕ}
use Rattle.am_names.specs.declared.trigger.Trigger.{Trigger}
use Rattle.am_job.specs.declared.left.Left.{Left}
use Rattle.am_job.specs.Left.{plan_left}
use Rattle.am_job.specs.Plans.{Plan}

-- a job as it is kept
pub record JobState : Type 0 where
  -- the number of the packet's token
  pub token : ℕ
  -- the attachment under which the packet was queued
  pub attach : ℕ
  pub trigger : Trigger
  pub left : Left

-- the acts that it has left
abbrev pub plan_of : JobState → Plan
plan_of job = plan_left job.trigger job.left
