-- The propagation of all mounts (sharedsubtree.rst, 5a).
use Rattle.std.specs.Prelude.{ℕ, List}
use Rattle.am_names.specs.Member.{MemberRow}
use Rattle.am_names.specs.declared.row.GroupRow.{GroupRow}

-- Each mount with its peer group or master, in rising order of mounts; each peer group with its
-- master, in order of making; and the greatest number that a group ever had.
pub record PeerGroups : Type 0 where
  pub members : List MemberRow
  pub groups : List GroupRow
  pub last_group : ℕ
