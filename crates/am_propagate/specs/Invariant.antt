-- What a mount table keeps: own choice.
use Rattle.std.specs.Prelude.{◌≡◌, ◌≤◌, ◌<◌, ℕ, List, map, Some}
use Rattle.am_names.specs.{MountRow}
use Rattle.am_group.specs.{PropagatesTo, IsSound, numbers}
use Rattle.am_mount.specs.{IsRising, mount_row, HasRow, IsIn, IsOn}
use Rattle.am_propagate.specs.MountTable.{MountTable}

-- both mounts are of one file system
abbrev pub ShareFs : List MountRow → ℕ → ℕ → Type 0
ShareFs rows b c = (x y : MountRow) → mount_row rows b ≡ Some x → mount_row rows c ≡ Some y → x.fs ≡ y.fs

-- the rows and the peer groups are of the same mounts, a mount is mounted on an older one of its
-- own namespace, and an event propagates only between mounts of one file system
pub record IsWhole (t : MountTable) : Type 0 where
  pub rising : IsRising t.rows
  pub sound : IsSound t.groups
  pub same_mounts : map (λ row. row.mount) t.rows ≡ numbers t.groups.members
  pub numbered : (m : ℕ) (row : MountRow) → mount_row t.rows m ≡ Some row → (m ≤ t.last_mount) × (row.ns ≤ t.last_ns)
  pub parents : (m p : ℕ) (row : MountRow) → mount_row t.rows m ≡ Some row → IsOn p row → HasRow (IsIn row.ns) t.rows p
  pub older : (m p : ℕ) (row : MountRow) → mount_row t.rows m ≡ Some row → IsOn p row → p < m
  pub one_fs : (b c : ℕ) → PropagatesTo t.groups b c → ShareFs t.rows b c
