-- Unmounting propagates (sharedsubtree.rst, 5f), dropping a namespace does not.
use Rattle.std.specs.Prelude.{◌≡◌, ◌==◌, ◌&&◌, ◌||◌, ℕ, Bool, false, not, List, filter, Option, Some, None, is_some, if◌then◌else◌}
use Rattle.std.specs.List.{list_any}
use Rattle.am_names.specs.declared.errno.Errno.{Errno}
use Rattle.am_names.specs.declared.errno.Errno.TheVariants.{ENOENT, EBUSY, EINVAL}
use Rattle.am_names.specs.{MountRow, Position, is_among}
use Rattle.am_group.specs.{is_just, without, receivers_of}
use Rattle.am_mount.specs.{mount_row, mounts_where, is_in, is_child, top_of, IsOn}
use Rattle.am_propagate.specs.MountTable.{MountTable, is_mount, mountpoint_of}

-- nothing is mounted on the mount, at any place
abbrev pub is_bare : MountTable → ℕ → Bool
is_bare t m = not (list_any (is_child m) t.rows)

-- the mount is mounted on one of these mounts, and is the top at this place of it
abbrev pub is_top_at : MountTable → List ℕ → List (List ℕ) → ℕ → Option Position → Bool
is_top_at t mounts place m None = false
is_top_at t mounts place m (Some position) =
    is_among mounts position.mount && is_just m (top_of t.rows position.mount place)

-- the row is the top at this place of one of these mounts
abbrev pub is_top_on : MountTable → List ℕ → List (List ℕ) → MountRow → Bool
is_top_on t mounts place row = is_top_at t mounts place row.mount row.mountpoint

-- the mount, where nothing is mounted on it
abbrev pub if_bare : MountTable → Option ℕ → Option ℕ
if_bare t None = None
if_bare t (Some m) = if is_bare t m then Some m else None

-- the top at this place of the mount, where nothing is mounted on that one
abbrev pub bare_top : MountTable → List (List ℕ) → ℕ → Option ℕ
bare_top t place m = if_bare t (top_of t.rows m place)

-- the mount itself goes, and what is the top at the same place of a mount that receives from its
-- parent, where nothing is mounted on that one
abbrev pub goes_with : MountTable → ℕ → Option Position → MountRow → Bool
goes_with t m None row = row.mount == m
goes_with t m (Some position) row =
    (row.mount == m) ||
    (is_top_on t (receivers_of t.groups position.mount) position.place row && is_bare t row.mount)

-- what an unmount removes, in rising order
abbrev pub unmounted : MountTable → ℕ → List ℕ
unmounted t m = mounts_where (goes_with t m (mountpoint_of t m)) t.rows

-- the tests of an unmount: it is a mount, it isn't a namespace's root, nothing is mounted on it,
-- and nothing of what it removes is in use
abbrev pub umount_refusal : (ℕ → Bool) → ℕ → MountTable → Option Errno
umount_refusal uses m t =
    if not (is_mount t m) then Some EINVAL
    else if not (is_some (mountpoint_of t m)) then Some EBUSY
    else if not (is_bare t m) then Some EBUSY
    else if list_any uses (unmounted t m) then Some EBUSY
    else None

-- the mounts of the namespace, in rising order
abbrev pub mounts_in : MountTable → ℕ → List ℕ
mounts_in t ns = mounts_where (is_in ns) t.rows

-- a namespace is there as long as it has mounts
abbrev pub is_namespace : MountTable → ℕ → Bool
is_namespace t ns = list_any (is_in ns) t.rows

-- the tests of dropping a namespace: it isn't the first, it is there, no mount of it is in use
abbrev pub drop_refusal : (ℕ → Bool) → ℕ → MountTable → Option Errno
drop_refusal uses ns t =
    if ns == 0 then Some EINVAL
    else if not (is_namespace t ns) then Some ENOENT
    else if list_any uses (mounts_in t ns) then Some EBUSY
    else None

-- these mounts are removed, and masters that they leave without members are lifted
abbrev pub removed : List ℕ → MountTable → MountTable
removed gone t = record t {
  rows = filter (λ row. not (is_among gone row.mount)) t.rows;
  groups = without (is_among gone) t.groups;
}

-- a mount that stays has a parent that stays
abbrev pub LeavesParents : List ℕ → MountTable → Type 0
LeavesParents gone t =
    (m p : ℕ) (row : MountRow) → mount_row t.rows m ≡ Some row → IsOn p row →
    is_among gone m ≡ false → is_among gone p ≡ false
