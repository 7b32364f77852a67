-- The states of a mount (sharedsubtree.rst, 5a), and what each change makes of them.
use Rattle.std.specs.Prelude.{◌≡◌, ◌==◌, ◌&&◌, ℕ, Bool, true, false, not, List, Option, Some, None, option_map, if◌then◌else◌}
use Rattle.std.specs.List.{list_any}
use Rattle.am_names.specs.{MemberRow}
use Rattle.am_names.specs.PeerGroups.{PeerGroups}
use Rattle.am_group.specs.declared.mount_state.MountState.{MountState}
use Rattle.am_group.specs.declared.mount_state.MountState.TheVariants.{Shared, Slave, SharedSlave, Private, Unbindable}
use Rattle.am_group.specs.declared.mount_state.Change.{Change}
use Rattle.am_group.specs.declared.mount_state.Change.TheVariants.{MakeShared, MakeSlave, MakePrivate, MakeUnbindable}
use Rattle.am_group.specs.Propagation.{member_row, group_of, master_of_group}
use Rattle.am_group.specs.Changes.{is_just}

-- shared, or shared and slave, by the master of the mount's peer group
abbrev pub shared_kind : Option ℕ → MountState
shared_kind (Some master) = SharedSlave
shared_kind None = Shared

-- what a mount in no peer group is, by its master
abbrev pub lone_kind : Option ℕ → Bool → MountState
lone_kind (Some master) unbindable = Slave
lone_kind None true = Unbindable
lone_kind None false = Private

-- the state by the peer group, the master and the flag of a row
abbrev pub kind_where : PeerGroups → Option ℕ → Option ℕ → Bool → MountState
kind_where s (Some group) master unbindable = shared_kind (master_of_group s group)
kind_where s None master unbindable = lone_kind master unbindable

-- the state of the mount with this row
abbrev pub kind_of_row : PeerGroups → MemberRow → MountState
kind_of_row s row = kind_where s row.group row.master row.unbindable

-- the state of the mount
abbrev pub kind_of : PeerGroups → ℕ → Option MountState
kind_of s m = option_map (kind_of_row s) (member_row s.members m)

-- another mount is in the peer group
abbrev pub has_others : List MemberRow → ℕ → ℕ → Bool
has_others members m g = list_any (λ row. is_just g row.group && not (row.mount == m)) members

-- there is a peer group, and no other mount is in it
abbrev pub alone_in : PeerGroups → ℕ → Option ℕ → Bool
alone_in s m None = false
alone_in s m (Some g) = not (has_others s.members m g)

-- the mount is in a peer group, and no other is
abbrev pub is_alone : PeerGroups → ℕ → Bool
is_alone s m = alone_in s m (group_of s m)

-- what stands in the column of the change
abbrev pub column : Change → MountState → MountState → MountState → MountState → MountState
column MakeShared first second third fourth = first
column MakeSlave first second third fourth = second
column MakePrivate first second third fourth = third
column MakeUnbindable first second third fourth = fourth

-- the table of changes: what make-shared, make-slave, make-private and make-unbindable make of
-- each state (the state diagram of 5a; alone: the mount is the only one of its peer group)
abbrev pub kind_after : Change → Bool → MountState → MountState
kind_after change alone Shared =
    column change Shared (if alone then Private else Slave) Private Unbindable
kind_after change alone Slave = column change SharedSlave Slave Private Unbindable
kind_after change alone SharedSlave = column change SharedSlave Slave Private Unbindable
kind_after change alone Private = column change Shared Private Private Unbindable
kind_after change alone Unbindable = column change Shared Unbindable Private Unbindable

-- the mount's state afterwards is that which the table has for its state before
abbrev pub FollowsTable : Change → ℕ → PeerGroups → PeerGroups → Type 0
FollowsTable change m old new =
    kind_of new m ≡ option_map (kind_after change (is_alone old m)) (kind_of old m)
