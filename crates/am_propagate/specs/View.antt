-- What the fields stand for.
use Rattle.am_propagate.specs.MountTable.{MountTable}
use Rattle.am_propagate.specs.declared.subtree.Subtree.TheInside.{Inside}

-- the mounts, their propagation, and the numbers that were given
abbrev pub table_of : Inside → MountTable
table_of s = record { rows = s.tree; groups = s.groups; last_mount = s.last_mount; last_ns = s.last_ns; limit = s.limit }
