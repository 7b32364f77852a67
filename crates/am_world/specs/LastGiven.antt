-- The greatest number of each sort that a world has given: own choice (docs/DECISIONS.md, "A sort of
-- numbers that is used up is ENOSPC").
use Rattle.std.specs.Prelude.{◌≡◌}
use Rattle.am_kernel.specs.{KernelState}
use Rattle.am_world.specs.declared.views.Last.{Last}

-- these are they
pub record IsLast (k : KernelState) (last : Last) : Type 0 where
  pub mount : last.mount ≡ k.table.last_mount
  pub ns : last.ns ≡ k.table.last_ns
  pub group : last.group ≡ k.table.groups.last_group
  pub fs : last.fs ≡ k.last_fs
  pub attach : last.attach ≡ k.last_attach
  pub token : last.token ≡ k.waits.last_token
