-- Rows that are added, all at once: own choice.
use Rattle.std.specs.Prelude.{◌+◌, ℕ, List, ◌++◌, length}
use Rattle.am_names.specs.{MountRow, MemberRow, GroupRow}
use Rattle.am_group.specs.{all_added}
use Rattle.am_propagate.specs.MountTable.{MountTable}

-- these rows, with their propagation and their peer groups; the greatest namespace is this one
abbrev pub grown : List MountRow → List MemberRow → List GroupRow → ℕ → MountTable → MountTable
grown rows members groups ns t = record t {
  rows = t.rows ++ rows;
  groups = all_added members groups t.groups;
  last_mount = t.last_mount + length rows;
  last_ns = ns;
}
