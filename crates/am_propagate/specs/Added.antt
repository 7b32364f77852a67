-- A mount or bind, with its copies on the mounts that receive it (sharedsubtree.rst, 5b and 5e).
use Rattle.std.specs.Prelude.{◌≡◌, ◌⊎◌, ◌+◌, ℕ, zero, suc, Bool, true, false, not, List, [], ◌∷◌, ◌++◌, length, Option, Some, None, if◌then◌else◌}
use Rattle.am_names.specs.declared.errno.Errno.{Errno}
use Rattle.am_names.specs.declared.errno.Errno.TheVariants.{EINVAL, ENOSPC}
use Rattle.am_names.specs.{GroupRow, MemberRow, Membership, MountRow, Position, membership_where, row_with}
use Rattle.am_names.specs.PeerGroups.{PeerGroups}
use Rattle.am_group.specs.{member_row, group_of, all_added, receiving_groups, stand_in, copies_from, group_copies, receivers_of}
use Rattle.am_names.specs.declared.membership.Membership.TheVariants.{InGroup, SlaveOf, Private, Unbindable}
use Rattle.am_mount.specs.{mount_row}
use Rattle.am_propagate.specs.MountTable.{MountTable, is_mount, lacks_mounts, lacks_groups}

-- the namespace of a row that was looked up
abbrev pub ns_in : Option MountRow → ℕ
ns_in None = 0
ns_in (Some row) = row.ns

-- the file system of a row that was looked up
abbrev pub fs_in : Option MountRow → ℕ
fs_in None = 0
fs_in (Some row) = row.fs

-- a mount at this place of the parent, in the parent's namespace
abbrev pub row_at : MountTable → List (List ℕ) → ℕ → ℕ → ℕ → ℕ → MountRow
row_at t place fs origin number parent = record {
  mount = number;
  ns = ns_in (mount_row t.rows parent);
  mountpoint = Some (record { mount = parent; place = place });
  fs = fs;
  origin = origin;
}

-- one mount at this place of each parent, numbered in their order
abbrev pub rows_at : MountTable → List (List ℕ) → ℕ → ℕ → ℕ → List ℕ → List MountRow
rows_at t place fs origin number [] = []
rows_at t place fs origin number (parent ∷ parents) =
    row_at t place fs origin number parent ∷ rows_at t place fs origin (number + 1) parents

-- how the mount takes part in propagation
abbrev pub membership_in : Option MemberRow → Membership
membership_in None = Private
membership_in (Some row) = membership_where row.group row.master row.unbindable

-- how the mount with this number takes part in propagation
abbrev pub membership_of : MountTable → ℕ → Membership
membership_of t m = membership_in (member_row t.groups.members m)

-- a new mount on a shared one is in its source's peer group where the source is shared, and else
-- in a fresh one (5b and 5e)
abbrev pub new_group : Membership → ℕ → ℕ
new_group (InGroup group) last = group
new_group (SlaveOf master) last = last + 1
new_group Private last = last + 1
new_group Unbindable last = last + 1

-- the fresh one is a slave of its source's master
abbrev pub fresh_groups : Membership → ℕ → List GroupRow
fresh_groups (InGroup group) fresh = []
fresh_groups (SlaveOf master) fresh = (record { group = fresh; master = Some master }) ∷ []
fresh_groups Private fresh = (record { group = fresh; master = None }) ∷ []
fresh_groups Unbindable fresh = (record { group = fresh; master = None }) ∷ []

-- the greatest number of a peer group when the new mount has its own
abbrev pub last_fresh : Membership → ℕ → ℕ
last_fresh (InGroup group) last = last
last_fresh (SlaveOf master) last = last + 1
last_fresh Private last = last + 1
last_fresh Unbindable last = last + 1

-- which peer group stands among the copies for an old one
abbrev pub stands : Membership → ℕ → List ℕ → PeerGroups → ℕ → ℕ
stands membership own receivers s =
    let last = last_fresh membership s.last_group in
    stand_in own (new_group membership s.last_group) last (receiving_groups s receivers own)

-- on a shared mount: the new mount, and its copies in the groups that stand for their receivers';
-- on another there are no copies, and the new mount is as its source is
abbrev pub new_members : Membership → Option ℕ → List ℕ → ℕ → PeerGroups → List MemberRow
new_members membership (Some own) receivers number s =
    row_with (InGroup (new_group membership s.last_group)) number ∷
    copies_from (stands membership own receivers s) s (number + 1) receivers
new_members membership None receivers number s = row_with membership number ∷ []

-- the fresh group of the new mount comes first
abbrev pub new_groups : Membership → Option ℕ → List ℕ → PeerGroups → List GroupRow
new_groups membership (Some own) receivers s =
    fresh_groups membership (s.last_group + 1) ++
    group_copies (stands membership own receivers s) s (receiving_groups s receivers own)
new_groups membership None receivers s = []

-- a mount of this file system and with this source at a position, with its copies: it has the next
-- number, they have the following ones, in rising order of the mounts that receive it
abbrev pub mounted : Position → ℕ → Membership → MountTable → MountTable
mounted at fs membership t =
    let number = t.last_mount + 1 in
    let receivers = receivers_of t.groups at.mount in
    record t {
      rows = t.rows ++ rows_at t at.place fs number number (at.mount ∷ receivers);
      groups = all_added
          (new_members membership (group_of t.groups at.mount) receivers number t.groups)
          (new_groups membership (group_of t.groups at.mount) receivers t.groups)
          t.groups;
      last_mount = number + length receivers;
    }

-- so many numbers in rising order, from the one behind this on
abbrev pub numbers_after : ℕ → ℕ → List ℕ
numbers_after last zero = []
numbers_after last (suc count) = (last + 1) ∷ numbers_after (last + 1) count

-- the next so many mounts, in rising order
abbrev pub new_mounts : MountTable → ℕ → List ℕ
new_mounts t count = numbers_after t.last_mount count

-- how many mounts come with one on this mount: itself, and a copy for each that receives it
abbrev pub mounts_made : ℕ → MountTable → ℕ
mounts_made at t = suc (length (receivers_of t.groups at))

-- how many fresh peer groups the new mount itself needs
abbrev pub fresh_count : Membership → ℕ
fresh_count (InGroup group) = 0
fresh_count (SlaveOf master) = 1
fresh_count Private = 1
fresh_count Unbindable = 1

-- and how many a mount makes with those that stand for so many others
abbrev pub made_beside : Membership → Option ℕ → List ℕ → ℕ
made_beside membership (Some own) others = length others + fresh_count membership
made_beside membership None others = 0

-- how many peer groups are made for a mount and its copies
abbrev pub groups_made : Membership → Option ℕ → List ℕ → PeerGroups → ℕ
groups_made membership (Some own) receivers s =
    length (receiving_groups s receivers own) + fresh_count membership
groups_made membership None receivers s = 0

-- the numbers for the mount and its copies, or for their peer groups, are exhausted
abbrev pub numbers_refusal : ℕ → Membership → MountTable → Option Errno
numbers_refusal at membership t =
    let receivers = receivers_of t.groups at in
    if lacks_mounts (length receivers + 1) t then Some ENOSPC
    else if lacks_groups (groups_made membership (group_of t.groups at) receivers t.groups) t then Some ENOSPC
    else None

-- the tests of a mount: the position is on a mount, numbers are left
abbrev pub mount_refusal : ℕ → MountTable → Option Errno
mount_refusal at t =
    if not (is_mount t at) then Some EINVAL else numbers_refusal at Private t

-- it can't be bound (5e)
abbrev pub is_unbindable : Membership → Bool
is_unbindable (InGroup group) = false
is_unbindable (SlaveOf master) = false
is_unbindable Private = false
is_unbindable Unbindable = true

-- the tests of a bind: the source is a mount and may be bound, the position is on a mount, numbers
-- are left
abbrev pub bind_refusal : ℕ → ℕ → MountTable → Option Errno
bind_refusal source at t =
    if not (is_mount t source) then Some EINVAL
    else if is_unbindable (membership_of t source) then Some EINVAL
    else if not (is_mount t at) then Some EINVAL
    else numbers_refusal at (membership_of t source) t

-- a bind is a mount of the source's file system
abbrev pub bound : ℕ → Position → MountTable → MountTable
bound source at t = mounted at (fs_in (mount_row t.rows source)) (membership_of t source) t

-- the source is private, or it is a mount of this file system
abbrev pub HasSource : MountTable → ℕ → Membership → Type 0
HasSource t fs membership =
    (membership ≡ Private) ⊎
    ((m : ℕ) × (row : MountRow) × (mount_row t.rows m ≡ Some row) × (row.fs ≡ fs) × (membership_of t m ≡ membership))
