-- A change of one mount's state (sharedsubtree.rst, 5a).
use Rattle.std.specs.Prelude.{ℕ}
use Rattle.am_group.specs.{Change, changed}
use Rattle.am_propagate.specs.MountTable.{MountTable}

-- the mounts stay, and the peer groups change
abbrev pub with_change : Change → ℕ → MountTable → MountTable
with_change change m t = record t { groups = changed change m t.groups }
