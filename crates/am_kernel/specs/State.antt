-- The kernel as a value: own choice (docs/DECISIONS.md, "Attachments and queued packets are rows of
-- `Kernel`").
use Rattle.std.specs.Prelude.{ℕ, List, []}
use Rattle.am_names.specs.declared.limits.Limits.{Limits}
use Rattle.am_state.specs.{QueuedRow}
use Rattle.am_propagate.specs.MountTable.{MountTable}
use Rattle.am_propagate.specs.{opening}
use Rattle.am_trigger.specs.{TriggerRows, no_triggers, FailureRows}
use Rattle.am_wait.specs.{WaitRows, no_waits}
use Rattle.am_expire.specs.{Use, no_uses}
use Rattle.am_kernel.specs.declared.row.Attached.{Attached}
use Rattle.am_kernel.specs.declared.row.WalkRow.{WalkRow}

-- what the kernel holds
pub record KernelState : Type 0 where
  -- the mounts of all namespaces, with their propagation
  pub table : MountTable
  -- the autofs file systems, the directories that the daemon made, and the last uses
  pub triggers : TriggerRows
  -- what failed last at each trigger
  pub failures : FailureRows
  -- the open tokens, and who waits on them
  pub waits : WaitRows
  -- who is inside which mount
  pub uses : List Use
  -- the timeout and the latest attachment of each autofs, in order of attaching
  pub attached : List Attached
  -- the walk that each waiting walker began, in order of waiting
  pub walks : List WalkRow
  -- the packets in the pipes, in order
  pub queue : List QueuedRow
  -- the greatest number of a file system, and of an attachment, that was ever given
  pub last_fs : ℕ
  pub last_attach : ℕ
  -- the latest moment of all walks, resumes and expiries that weren't refused
  pub latest : ℕ
  -- how long a failure lasts, in seconds
  pub negative : ℕ

-- namespace 0 with its root, of the plain file system 1; nothing is attached, and nobody walks
abbrev pub initial : Limits → KernelState
initial limits = record {
  table = opening limits.mounts;
  triggers = no_triggers;
  failures = [];
  waits = no_waits limits.waiters limits.tokens;
  uses = no_uses;
  attached = [];
  walks = [];
  queue = [];
  last_fs = 1;
  last_attach = 0;
  latest = 0;
  negative = limits.negative;
}

-- the greatest number of a file system or an attachment: they have 32 bits
abbrev pub greatest_u32 : ℕ
greatest_u32 = 4294967295
