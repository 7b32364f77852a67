-- The rows of a change before masters are lifted: own choice (docs/DECISIONS.md, "A group without
-- members is gone").
use Rattle.std.specs.Prelude.{◌≡◌, ◌||◌, ◌&&◌, ◌==◌, ℕ, Bool, true, false, not, List, filter, Option, Some, None, if◌then◌else◌}
use Rattle.std.specs.List.{list_all, list_any}
use Rattle.am_names.specs.{MemberRow, GroupRow, is_among}
use Rattle.am_names.specs.PeerGroups.{PeerGroups}
use Rattle.am_group.specs.declared.mount_state.MountState.{MountState}
use Rattle.am_group.specs.declared.mount_state.MountState.TheVariants.{Shared, Slave, SharedSlave, Private, Unbindable}
use Rattle.am_group.specs.declared.mount_state.Change.{Change}
use Rattle.am_group.specs.declared.mount_state.Change.TheVariants.{MakeShared, MakeSlave, MakePrivate, MakeUnbindable}
use Rattle.am_group.specs.Propagation.{master_of_group}
use Rattle.am_group.specs.Scan.{is_one_of}
use Rattle.am_group.specs.Indexed.{is_in, has_master, is_below_it, mounts_where, groups_where}
use Rattle.am_group.specs.Changes.{is_just, has_members, shared_row, slave_row, private_row, unbindable_row}

-- these are the peer groups that have members
abbrev pub AreLive : List MemberRow → List ℕ → Type 0
AreLive members live = (g : ℕ) → is_among live g ≡ has_members members g

-- these are the peer groups that had members, and have none among the new rows
abbrev pub AreLost : List MemberRow → List MemberRow → List ℕ → Type 0
AreLost old new lost =
    (g : ℕ) → is_among lost g ≡ (has_members old g && not (has_members new g))

-- the peer group is lost, or its master isn't
abbrev pub is_free_group : List ℕ → GroupRow → Bool
is_free_group lost row = is_among lost row.group || not (is_one_of lost row.master)

-- the mount goes, or its master isn't lost
abbrev pub is_free_member : List ℕ → List ℕ → MemberRow → Bool
is_free_member gone lost row = not (is_one_of lost row.master) || is_among gone row.mount

-- each member of the peer group is one of these mounts
abbrev pub goes_whole : List MemberRow → List ℕ → ℕ → Bool
goes_whole members gone g = list_all (is_among gone) (mounts_where (is_in g) members)

-- each slave of the peer group goes, and each group below it is lost
abbrev pub has_none_left : List ℕ → List ℕ → PeerGroups → ℕ → Bool
has_none_left gone lost s g =
    list_all (is_among gone) (mounts_where (has_master g) s.members) &&
    list_all (is_among lost) (groups_where (is_below_it g) s.groups)

-- no mount's master is lost, and none of a peer group that stays
abbrev pub is_free_of : List ℕ → PeerGroups → Bool
is_free_of lost s =
    list_all (λ row. not (is_one_of lost row.master)) s.members &&
    list_all (is_free_group lost) s.groups

-- these peer groups go, and nothing else changes
abbrev pub without_groups : List ℕ → PeerGroups → PeerGroups
without_groups lost s =
    record s { groups = filter (λ row. not (is_among lost row.group)) s.groups }

-- another mount than this one is in the peer group
abbrev pub is_other_in : ℕ → ℕ → MemberRow → Bool
is_other_in m g row = is_just g row.group && not (row.mount == m)

-- there is no peer group, or another mount is in it
abbrev pub not_alone_in : PeerGroups → ℕ → Option ℕ → Bool
not_alone_in s m None = true
not_alone_in s m (Some g) = list_any (is_other_in m g) s.members

-- the mount of the row is in no peer group, or in one with others
abbrev pub is_not_alone : PeerGroups → MemberRow → Bool
is_not_alone s row = not_alone_in s row.mount row.group

-- in place of this peer group as a master its own
abbrev pub past : PeerGroups → ℕ → Option ℕ → Option ℕ
past s g master = if is_just g master then master_of_group s g else master

-- the same of a mount's master
abbrev pub past_member : PeerGroups → ℕ → MemberRow → MemberRow
past_member s g row = record row { master = past s g row.master }

-- and of a peer group's
abbrev pub past_group : PeerGroups → ℕ → GroupRow → GroupRow
past_group s g row = record row { master = past s g row.master }

-- what a change makes of a row
abbrev pub row_of : Change → ℕ → MemberRow → MemberRow
row_of MakeShared fresh = shared_row fresh
row_of MakeSlave fresh = slave_row
row_of MakePrivate fresh = private_row
row_of MakeUnbindable fresh = unbindable_row

-- the row of a mount that comes to this state
abbrev pub row_as : MountState → ℕ → MemberRow → MemberRow
row_as Shared fresh = shared_row fresh
row_as SharedSlave fresh = shared_row fresh
row_as Slave fresh = slave_row
row_as Private fresh = private_row
row_as Unbindable fresh = unbindable_row

-- the change puts no mount into a peer group
abbrev pub gives_up : Change → Bool
gives_up MakeShared = false
gives_up MakeSlave = true
gives_up MakePrivate = true
gives_up MakeUnbindable = true
