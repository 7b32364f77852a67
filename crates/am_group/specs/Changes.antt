-- Changes of a mount's propagation (sharedsubtree.rst, 5a and 8), and what an emptied peer
-- group leaves.
use Rattle.std.specs.Prelude.{◌==◌, ◌||◌, ◌+◌, ℕ, zero, suc, Bool, true, false, not, List, [], ◌∷◌, ◌++◌, map, filter, find, Option, Some, None, if◌then◌else◌}
use Rattle.std.specs.List.{list_any}
use Rattle.am_names.specs.{MemberRow, GroupRow}
use Rattle.am_names.specs.PeerGroups.{PeerGroups}
use Rattle.am_group.specs.declared.mount_state.Change.{Change}
use Rattle.am_group.specs.declared.mount_state.Change.TheVariants.{MakeShared, MakeSlave, MakePrivate, MakeUnbindable}
use Rattle.am_group.specs.Propagation.{member_row, group_of, master_of_group}

-- there is a peer group, and it is this one
abbrev pub is_just : ℕ → Option ℕ → Bool
is_just g None = false
is_just g (Some h) = h == g

-- a mount is in the peer group
abbrev pub has_members : List MemberRow → ℕ → Bool
has_members members g = list_any (λ row. is_just g row.group) members

-- the group, its master, that one's master and so on, for at most so many steps
abbrev pub up_within : ℕ → PeerGroups → Option ℕ → List ℕ
up_within zero s start = []
up_within (suc steps) s None = []
up_within (suc steps) s (Some g) = g ∷ up_within steps s (master_of_group s g)

-- the whole chain of masters: a master's number is below its group's, so so many steps are enough
abbrev pub up : PeerGroups → Option ℕ → List ℕ
up s None = []
up s (Some g) = up_within (suc g) s (Some g)

-- in place of a master that doesn't stay the first group up its chain of masters that does, else
-- none
abbrev pub lifted : (ℕ → Bool) → PeerGroups → Option ℕ → Option ℕ
lifted stays s master = find stays (up s master)

-- the same of a mount's master
abbrev pub lifted_member : (ℕ → Bool) → PeerGroups → MemberRow → MemberRow
lifted_member stays s row = record row { master = lifted stays s row.master }

-- and of a peer group's
abbrev pub lifted_group : (ℕ → Bool) → PeerGroups → GroupRow → GroupRow
lifted_group stays s row = record row { master = lifted stays s row.master }

-- every master that doesn't stay is lifted
abbrev pub settled : (ℕ → Bool) → PeerGroups → PeerGroups
settled stays s = record s {
  members = map (lifted_member stays s) s.members;
  groups = map (lifted_group stays s) s.groups;
}

-- the peer groups that don't stay go
abbrev pub cleared : (ℕ → Bool) → PeerGroups → PeerGroups
cleared stays s = record s { groups = filter (λ row. stays row.group) s.groups }

-- slave: of the peer group that it leaves; what is in none stays as it is
abbrev pub slave_from : Option ℕ → MemberRow → MemberRow
slave_from (Some group) row = record row { group = None; master = Some group; unbindable = false }
slave_from None row = row

-- the mount becomes a slave of the peer group that it leaves
abbrev pub slave_row : MemberRow → MemberRow
slave_row row = slave_from row.group row

-- the mount becomes private
abbrev pub private_row : MemberRow → MemberRow
private_row row = record row { group = None; master = None; unbindable = false }

-- the mount becomes private, and not to be bound
abbrev pub unbindable_row : MemberRow → MemberRow
unbindable_row row = record row { group = None; master = None; unbindable = true }

-- shared: in this fresh peer group; what is in a group stays in it
abbrev pub shared_from : Option ℕ → ℕ → MemberRow → MemberRow
shared_from (Some group) fresh row = row
shared_from None fresh row = record row { group = Some fresh; master = None; unbindable = false }

-- the mount becomes shared
abbrev pub shared_row : ℕ → MemberRow → MemberRow
shared_row fresh row = shared_from row.group fresh row

-- the row of this mount changes so, and any other stays
abbrev pub at_row : (MemberRow → MemberRow) → ℕ → MemberRow → MemberRow
at_row change m row = if row.mount == m then change row else row

-- this mount's row changes so
abbrev pub with_row : (MemberRow → MemberRow) → ℕ → PeerGroups → PeerGroups
with_row change m s = record s { members = map (at_row change m) s.members }

-- a fresh peer group with this master
abbrev pub with_group : Option ℕ → PeerGroups → PeerGroups
with_group master s = record s {
  groups = s.groups ++ (record { group = s.last_group + 1; master = master }) ∷ [];
  last_group = s.last_group + 1;
}

-- a mount in no group comes into a fresh one, whose master is the mount's own
abbrev pub shared_where : Option MemberRow → Option ℕ → ℕ → PeerGroups → PeerGroups
shared_where None group m s = s
shared_where (Some row) (Some group) m s = s
shared_where (Some row) None m s =
    with_row (shared_row (s.last_group + 1)) m (with_group row.master s)

-- own choice (docs/DECISIONS.md, "A group without members is gone"): a peer group stays where it
-- has members, or where it had none before
abbrev pub is_kept : List MemberRow → List MemberRow → ℕ → Bool
is_kept old new g = has_members new g || not (has_members old g)

-- own choice (docs/DECISIONS.md, "A group without members is gone"): the rows of a state that comes
-- after the old one: the peer groups that lost their last member go, and in place of each as a
-- master the first group up its chain of masters that stays, else none
abbrev pub left : PeerGroups → PeerGroups → PeerGroups
left old raw =
    let stays = is_kept old.members raw.members in
    cleared stays (settled stays raw)

-- ---- the four changes: the mount's row, then the peer group that it leaves without members

-- make-shared
abbrev pub made_shared : ℕ → PeerGroups → PeerGroups
made_shared m s = shared_where (member_row s.members m) (group_of s m) m s

-- make-slave
abbrev pub made_slave : ℕ → PeerGroups → PeerGroups
made_slave m s = left s (with_row slave_row m s)

-- make-private
abbrev pub made_private : ℕ → PeerGroups → PeerGroups
made_private m s = left s (with_row private_row m s)

-- make-unbindable
abbrev pub made_unbindable : ℕ → PeerGroups → PeerGroups
made_unbindable m s = left s (with_row unbindable_row m s)

-- the change that is asked for
abbrev pub changed : Change → ℕ → PeerGroups → PeerGroups
changed MakeShared = made_shared
changed MakeSlave = made_slave
changed MakePrivate = made_private
changed MakeUnbindable = made_unbindable

-- the mounts that the test keeps are left
abbrev pub with_only : (ℕ → Bool) → PeerGroups → PeerGroups
with_only keeps s = record s { members = filter (λ row. keeps row.mount) s.members }

-- these mounts leave, and then the peer groups that they leave without members
abbrev pub without : (ℕ → Bool) → PeerGroups → PeerGroups
without gone s = left s (with_only (λ m. not (gone m)) s)
