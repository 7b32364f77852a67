-- All mounts with their propagation (sharedsubtree.rst, 5), and the numbers that were given. The
-- initial namespace is own choice.
use Rattle.std.specs.Prelude.{◌+◌, ℕ, Bool, nat_lt, List, [], ◌∷◌, map, Option, Some, None, is_some}
use Rattle.am_names.specs.{MountRow, Position, row_with}
use Rattle.am_names.specs.PeerGroups.{PeerGroups}
use Rattle.am_names.specs.declared.membership.Membership.TheVariants.{Private}
use Rattle.am_group.specs.{no_mounts, with_member}
use Rattle.am_mount.specs.{mount_row}

-- all mounts, and how they take part in propagation
pub record MountTable : Type 0 where
  -- in rising order of their numbers
  pub rows : List MountRow
  -- how the same mounts take part in propagation
  pub groups : PeerGroups
  -- the greatest number of each sort that was ever given
  pub last_mount : ℕ
  pub last_ns : ℕ
  -- the greatest number that a mount may have
  pub limit : ℕ

-- namespace 0 with mount 1, private, of file system 1, as its root
abbrev pub opening : ℕ → MountTable
opening limit = record {
  rows = (record { mount = 1; ns = 0; mountpoint = None; fs = 1; origin = 1 }) ∷ [];
  groups = with_member (row_with Private 1) no_mounts;
  last_mount = 1;
  last_ns = 0;
  limit = limit;
}

-- the numbers of all mounts, in rising order
abbrev pub all_mounts : MountTable → List ℕ
all_mounts t = map (λ row. row.mount) t.rows

-- there is such a mount
abbrev pub is_mount : MountTable → ℕ → Bool
is_mount t m = is_some (mount_row t.rows m)

-- where the mount with this row is mounted
abbrev pub mountpoint_in : Option MountRow → Option Position
mountpoint_in None = None
mountpoint_in (Some row) = row.mountpoint

-- where the mount is mounted; none for the root mount of a namespace
abbrev pub mountpoint_of : MountTable → ℕ → Option Position
mountpoint_of t m = mountpoint_in (mount_row t.rows m)

-- so many more mounts would go past the limit
abbrev pub lacks_mounts : ℕ → MountTable → Bool
lacks_mounts count t = nat_lt t.limit (t.last_mount + count)

-- the numbers of so many more peer groups are exhausted: they have 64 bits
abbrev pub lacks_groups : ℕ → MountTable → Bool
lacks_groups count t = nat_lt 18446744073709551615 (t.groups.last_group + count)
