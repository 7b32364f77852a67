-- Copies and drops of namespaces (sharedsubtree.rst, 5g). What walkers, daemons and tokens do
-- belongs to file systems, and isn't copied.
use Rattle.std.specs.Prelude.{ℕ}
use Rattle.am_propagate.specs.{CopyForm, with_copy, mounts_in}
use Rattle.am_kernel.specs.State.{KernelState}
use Rattle.am_kernel.specs.DaemonMounts.{without_mounts}

-- there is a new namespace, with a copy of each mount of this one
abbrev pub with_namespace : CopyForm → ℕ → KernelState → KernelState
with_namespace form ns k = record k { table = with_copy form ns k.table }

-- the namespace has gone, with all its mounts
abbrev pub without_namespace : ℕ → KernelState → KernelState
without_namespace ns k = without_mounts (mounts_in k.table ns) k
