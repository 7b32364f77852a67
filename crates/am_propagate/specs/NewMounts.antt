-- Mounts that come, while all others stay as they were (sharedsubtree.rst, 5b and 5e).
use Rattle.std.specs.Prelude.{◌≡◌, ℕ, true, false, List, Some, None}
use Rattle.am_names.specs.{MountRow, MemberRow, GroupRow}
use Rattle.am_group.specs.{member_row, group_row}
use Rattle.am_mount.specs.{mount_row}
use Rattle.am_propagate.specs.MountTable.{MountTable, is_mount}

-- the mount wasn't there before, and is now
abbrev pub IsNewMount : MountTable → MountTable → ℕ → Type 0
IsNewMount old new m = (is_mount old m ≡ false) × (is_mount new m ≡ true)

-- the mount takes part in propagation, and does so in this way
abbrev pub HasMember : (MemberRow → Type 0) → List MemberRow → ℕ → Type 0
HasMember P members m = (row : MemberRow) × (member_row members m ≡ Some row) × P row

-- the mount is in this peer group
pub record IsInGroup (group : ℕ) (row : MemberRow) : Type 0 where
  pub in_group : row.group ≡ Some group
  pub has_no_master : row.master ≡ None
  pub can_be_bound : row.unbindable ≡ false

-- the mount is in no peer group, and a slave of this one
pub record IsSlave (group : ℕ) (row : MemberRow) : Type 0 where
  pub in_no_group : row.group ≡ None
  pub has_master : row.master ≡ Some group
  pub can_be_bound : row.unbindable ≡ false

-- what was there stays: each mount is where it was, and takes part in propagation as it did, and
-- each peer group has the master that it had
pub record KeepsMounts (old new : MountTable) : Type 0 where
  pub rows :
      (m : ℕ) (row : MountRow) → mount_row old.rows m ≡ Some row → mount_row new.rows m ≡ Some row
  pub members :
      (m : ℕ) (row : MemberRow) → member_row old.groups.members m ≡ Some row →
      member_row new.groups.members m ≡ Some row
  pub groups :
      (g : ℕ) (row : GroupRow) → group_row old.groups.groups g ≡ Some row →
      group_row new.groups.groups g ≡ Some row
