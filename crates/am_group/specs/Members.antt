-- Mounts and peer groups that are added (sharedsubtree.rst, 5a). The order of a call's tests is own
-- choice.
use Rattle.std.specs.Prelude.{◌≡◌, ◌==◌, ◌&&◌, ◌-◌, ℕ, Bool, true, false, not, nat_lt, List, [], ◌∷◌, ◌++◌, length, take, filter, Option, Some, None, is_some, if◌then◌else◌}
use Rattle.am_names.specs.{MemberRow, Membership}
use Rattle.am_names.specs.declared.errno.Errno.{Errno}
use Rattle.am_names.specs.declared.errno.Errno.TheVariants.{EEXIST, EINVAL, ENOSPC}
use Rattle.am_names.specs.PeerGroups.{PeerGroups}
use Rattle.am_group.specs.declared.mount_state.Change.{Change}
use Rattle.am_group.specs.declared.mount_state.Change.TheVariants.{MakeShared, MakeSlave, MakePrivate, MakeUnbindable}
use Rattle.am_names.specs.declared.membership.Membership.TheVariants.{InGroup, SlaveOf, Private, Unbindable}
use Rattle.am_group.specs.Propagation.{member_row, group_row, group_of}
use Rattle.am_group.specs.Changes.{has_members}
use Rattle.am_group.specs.Invariant.{IsPeopled}

-- no mount and no peer group
abbrev pub no_mounts : PeerGroups
no_mounts = record { members = []; groups = []; last_group = 0 }

-- the mounts with lower numbers
abbrev pub below : ℕ → List MemberRow → List MemberRow
below m members = filter (λ row. nat_lt row.mount m) members

-- the mounts with higher numbers
abbrev pub above : ℕ → List MemberRow → List MemberRow
above m members = filter (λ row. nat_lt m row.mount) members

-- the row stands between those with lower and those with higher numbers
abbrev pub with_member : MemberRow → PeerGroups → PeerGroups
with_member row s =
    record s { members = below row.mount s.members ++ row ∷ above row.mount s.members }

-- the newest mounts, so many, are taken back
abbrev pub without_newest : ℕ → PeerGroups → PeerGroups
without_newest count s = record s { members = take (length s.members - count) s.members }

-- the peer group is there
abbrev pub is_group : PeerGroups → ℕ → Bool
is_group s g = is_some (group_row s.groups g)

-- there is no master, or the group is there
abbrev pub may_be_master : PeerGroups → Option ℕ → Bool
may_be_master s None = true
may_be_master s (Some g) = is_group s g

-- the group is there, in which the mount is or of which it is a slave
abbrev pub may_have : PeerGroups → Membership → Bool
may_have s (InGroup g) = is_group s g
may_have s (SlaveOf g) = is_group s g
may_have s Private = true
may_have s Unbindable = true

-- there is no master, or it has members
abbrev pub has_peopled_master : PeerGroups → Option ℕ → Bool
has_peopled_master s None = true
has_peopled_master s (Some g) = has_members s.members g

-- where every master has members, and the one that is named does, each master has some afterwards
abbrev pub KeepsPeopled : Option ℕ → PeerGroups → PeerGroups → Type 0
KeepsPeopled master old new =
    IsPeopled old → has_peopled_master old master ≡ true → IsPeopled new

-- the numbers of groups are exhausted: they have 64 bits
abbrev pub is_exhausted : PeerGroups → Bool
is_exhausted s = s.last_group == 18446744073709551615

-- the tests of `fresh`: the master is there, a number is left
abbrev pub fresh_refusal : Option ℕ → PeerGroups → Option Errno
fresh_refusal master s =
    if not (may_be_master s master) then Some EINVAL
    else if is_exhausted s then Some ENOSPC
    else None

-- the tests of `add`: the number is new, the group is there
abbrev pub add_refusal : ℕ → Membership → PeerGroups → Option Errno
add_refusal m membership s =
    if is_some (member_row s.members m) then Some EEXIST
    else if not (may_have s membership) then Some EINVAL
    else None

-- a mount in no group is to be shared, and no number is left for a fresh group
abbrev pub lacks_number : Change → ℕ → PeerGroups → Bool
lacks_number MakeShared m s = not (is_some (group_of s m)) && is_exhausted s
lacks_number MakeSlave m s = false
lacks_number MakePrivate m s = false
lacks_number MakeUnbindable m s = false

-- the tests of a change: the mount is there, a number is left for the fresh group that it needs
abbrev pub change_refusal : Change → ℕ → PeerGroups → Option Errno
change_refusal change m s =
    if not (is_some (member_row s.members m)) then Some EINVAL
    else if lacks_number change m s then Some ENOSPC
    else None
