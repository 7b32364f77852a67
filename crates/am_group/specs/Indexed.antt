-- The mounts and the peer groups by the groups that they name: own choice (Linux: mnt_share,
-- mnt_slave_list).
use Rattle.std.specs.Prelude.{◌≡◌, ◌++◌, ℕ, Bool, List, Option, Some, None}
use Rattle.am_names.specs.{MemberRow, GroupRow}
use Rattle.am_names.specs.PeerGroups.{PeerGroups}
use Rattle.am_index.specs.{AddsTo, HasRoom, Index, IsIndexOf, ListsRise, SameLists, TakesFrom, listed, moved, numbered}
use Rattle.am_group.specs.declared.indexes.Indexes.{Indexes}
use Rattle.am_group.specs.Changes.{is_just}

-- the mount is in the peer group
abbrev pub is_in : ℕ → MemberRow → Bool
is_in g row = is_just g row.group

-- the mount names the peer group as its master
abbrev pub has_master : ℕ → MemberRow → Bool
has_master g row = is_just g row.master

-- the peer group has this one as its master
abbrev pub is_below_it : ℕ → GroupRow → Bool
is_below_it g row = is_just g row.master

-- the mounts whose rows pass the test
abbrev pub mounts_where : (MemberRow → Bool) → List MemberRow → List ℕ
mounts_where test rows = numbered (λ (row : MemberRow). row.mount) test rows

-- the peer groups whose rows pass the test
abbrev pub groups_where : (GroupRow → Bool) → List GroupRow → List ℕ
groups_where test rows = numbered (λ (row : GroupRow). row.group) test rows

-- there is no group, or there is room for one more in its list
abbrev pub RoomFor : Option ℕ → Index → Type 0
RoomFor None index = Unit {0}
RoomFor (Some g) index = HasRoom index g

-- the number goes from the list of the one group to that of the other
abbrev pub Moves : Option ℕ → Option ℕ → ℕ → Index → Index → Type 0
Moves from to m old new =
    (n : ℕ) → listed new n ≡ moved (is_just n from) (is_just n to) m (listed old n)

-- all three have the same lists
pub record HaveSameLists (old new : Indexes) : Type 0 where
  pub members : SameLists old.members new.members
  pub slaves : SameLists old.slaves new.slaves
  pub below : SameLists old.below new.below

-- there is room for the mount
abbrev pub HaveRoom : MemberRow → Indexes → Type 0
HaveRoom row t = RoomFor row.group t.members × RoomFor row.master t.slaves

-- there is room for the peer group
abbrev pub HasGroupRoom : GroupRow → Indexes → Type 0
HasGroupRoom row t = RoomFor row.master t.below

-- the mount stands last in its lists
pub record AreWith (row : MemberRow) (old new : Indexes) : Type 0 where
  pub members : AddsTo (λ n. is_in n row) row.mount old.members new.members
  pub slaves : AddsTo (λ n. has_master n row) row.mount old.slaves new.slaves
  pub below : SameLists old.below new.below

-- the peer group stands last in its list
pub record IsWithGroup (row : GroupRow) (old new : Indexes) : Type 0 where
  pub members : SameLists old.members new.members
  pub slaves : SameLists old.slaves new.slaves
  pub below : AddsTo (λ n. is_below_it n row) row.group old.below new.below

-- the mount is in none of its lists
pub record AreWithout (row : MemberRow) (old new : Indexes) : Type 0 where
  pub members : TakesFrom (λ n. is_in n row) row.mount old.members new.members
  pub slaves : TakesFrom (λ n. has_master n row) row.mount old.slaves new.slaves
  pub below : SameLists old.below new.below

-- the peer group is not in its list
pub record IsWithoutGroup (row : GroupRow) (old new : Indexes) : Type 0 where
  pub members : SameLists old.members new.members
  pub slaves : SameLists old.slaves new.slaves
  pub below : TakesFrom (λ n. is_below_it n row) row.group old.below new.below

-- the mount is in the lists of its new row, and no longer in those of its old one
pub record AreMoved (row after : MemberRow) (old new : Indexes) : Type 0 where
  pub members : Moves row.group after.group row.mount old.members new.members
  pub slaves : Moves row.master after.master row.mount old.slaves new.slaves
  pub below : new.below ≡ old.below

-- these mounts stand last in their lists
pub record AreAdded (rows : List MemberRow) (old new : Indexes) : Type 0 where
  pub members : (n : ℕ) → listed new.members n ≡ listed old.members n ++ mounts_where (is_in n) rows
  pub slaves :
      (n : ℕ) → listed new.slaves n ≡ listed old.slaves n ++ mounts_where (has_master n) rows
  pub below : SameLists old.below new.below

-- these peer groups stand last in their lists
pub record GroupsAreAdded (rows : List GroupRow) (old new : Indexes) : Type 0 where
  pub members : SameLists old.members new.members
  pub slaves : SameLists old.slaves new.slaves
  pub below : (n : ℕ) → listed new.below n ≡ listed old.below n ++ groups_where (is_below_it n) rows

-- both
pub record AllAreAdded (rows : List MemberRow) (groups : List GroupRow) (old new : Indexes) :
    Type 0 where
  pub members : (n : ℕ) → listed new.members n ≡ listed old.members n ++ mounts_where (is_in n) rows
  pub slaves :
      (n : ℕ) → listed new.slaves n ≡ listed old.slaves n ++ mounts_where (has_master n) rows
  pub below :
      (n : ℕ) → listed new.below n ≡ listed old.below n ++ groups_where (is_below_it n) groups

-- the lists of all three rise
pub record AllRise (t : Indexes) : Type 0 where
  pub members : ListsRise t.members
  pub slaves : ListsRise t.slaves
  pub below : ListsRise t.below

-- for each peer group its members, and the mounts that are slaves of it
pub record ListMembers (rows : List MemberRow) (t : Indexes) : Type 0 where
  pub members : IsIndexOf (λ (row : MemberRow). row.mount) is_in rows t.members
  pub slaves : IsIndexOf (λ (row : MemberRow). row.mount) has_master rows t.slaves

-- for each peer group the groups below it
abbrev pub ListGroups : List GroupRow → Indexes → Type 0
ListGroups rows t = IsIndexOf (λ (row : GroupRow). row.group) is_below_it rows t.below

-- both
abbrev pub AreIndexed : PeerGroups → Indexes → Type 0
AreIndexed s t = ListMembers s.members t × ListGroups s.groups t
