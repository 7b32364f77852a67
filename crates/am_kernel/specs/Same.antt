-- Two kernels, part by part, for the code alone: own choice.
use Rattle.std.specs.Prelude.{◌≡◌}
use Rattle.am_kernel.specs.State.{KernelState}

-- the same mounts and triggers, and the same who wait there
pub record HaveSameTriggers (k l : KernelState) : Type 0 where
  pub table : k.table ≡ l.table
  pub triggers : k.triggers ≡ l.triggers
  pub failures : k.failures ≡ l.failures
  pub waits : k.waits ≡ l.waits

-- the same walkers inside of mounts, attachments, walks and packets
pub record HaveSameWalks (k l : KernelState) : Type 0 where
  pub uses : k.uses ≡ l.uses
  pub attached : k.attached ≡ l.attached
  pub walks : k.walks ≡ l.walks
  pub queue : k.queue ≡ l.queue
