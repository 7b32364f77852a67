-- What the fields stand for, and what they keep.
use Rattle.std.specs.Prelude.{◌≤◌, ℕ, List, length}
use Rattle.std.specs.List.{All}
use Rattle.am_state.specs.{QueuedRow}
use Rattle.am_trigger.specs.{Autofs}
use Rattle.am_kernel.specs.declared.row.Attached.{Attached}
use Rattle.am_kernel.specs.State.{KernelState}
use Rattle.am_kernel.specs.declared.kernel.Kernel.TheInside.{Inside}

-- the state that these fields hold
abbrev pub kernel_of : Inside → KernelState
kernel_of k = record {
  table = k.subtree;
  triggers = k.triggers.rows;
  failures = k.failures.rows;
  waits = k.waits;
  uses = k.uses;
  attached = k.attached.rows;
  walks = k.walks.rows;
  queue = k.queue.rows;
  last_fs = k.last_fs;
  last_attach = k.last_attach;
  latest = k.latest;
  negative = k.negative;
}

-- the number of the next file system is no autofs' number
abbrev pub IsSound : KernelState → Type 0
IsSound k = All (λ (row : Autofs). row.fs ≤ k.last_fs) k.triggers.autofs

-- the file systems that are attached have numbers that were given
abbrev pub AreGiven : ℕ → List Attached → Type 0
AreGiven last rows = All (λ (row : Attached). row.fs ≤ last) rows

-- the attachments have numbers that were given
abbrev pub AreAttached : ℕ → List Attached → Type 0
AreAttached last rows = All (λ (row : Attached). row.attach ≤ last) rows

-- the packets are of tokens that were given
abbrev pub AreOpened : ℕ → List QueuedRow → Type 0
AreOpened last rows = All (λ (row : QueuedRow). row.token ≤ last) rows

-- what was attached and what is queued have numbers that were given, so that a new one is above;
-- and there is room for the failure of each open token, so that an acknowledgement takes no memory
pub record IsKept (k : Inside) : Type 0 where
  pub numbered : IsSound (kernel_of k)
  pub room : length k.waits.tokens ≤ k.failures.room
  pub given : AreGiven k.last_fs k.attached.rows
  pub attached : AreAttached k.last_attach k.attached.rows
  pub opened : AreOpened k.waits.last_token k.queue.rows
