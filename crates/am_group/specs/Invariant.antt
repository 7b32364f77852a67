-- What the peer groups keep (sharedsubtree.rst, 5a). That numbers rise is own choice.
use Rattle.std.specs.Prelude.{◌≡◌, ◌≤◌, ◌<◌, ◌⊎◌, ℕ, true, List, Some, is_some}
use Rattle.am_names.specs.{MemberRow, GroupRow, RiseBy}
use Rattle.am_names.specs.PeerGroups.{PeerGroups}
use Rattle.am_group.specs.Propagation.{member_row, group_row, group_of, master_of_group, slave_in, Receives}

-- the mounts stand in rising order of number, from this one on
abbrev pub RiseFrom : ℕ → List MemberRow → Type 0
RiseFrom low rows = RiseBy (λ (row : MemberRow). row.mount) low rows

-- the peer groups stand in rising order of number, each once
abbrev pub GroupsRise : List GroupRow → Type 0
GroupsRise rows = RiseBy (λ (row : GroupRow). row.group) 0 rows

-- the peer group has a row of its own
abbrev pub IsGroup : PeerGroups → ℕ → Type 0
IsGroup s g = is_some (group_row s.groups g) ≡ true

-- a mount or a peer group has this master
abbrev pub IsMaster : PeerGroups → ℕ → Type 0
IsMaster s g =
    ((m : ℕ) × (slave_in (member_row s.members m) ≡ Some g)) ⊎
    ((h : ℕ) × (master_of_group s h ≡ Some g))

-- a mount is in the peer group
abbrev pub HasMembers : PeerGroups → ℕ → Type 0
HasMembers s g = (m : ℕ) × (group_of s m ≡ Some g)

-- every peer group that is named has a row, masters have lower numbers, and new numbers are fresh
pub record IsOrderly (s : PeerGroups) : Type 0 where
  pub rising : RiseFrom 0 s.members
  pub groups_rising : GroupsRise s.groups
  pub group_named : (m g : ℕ) → group_of s m ≡ Some g → IsGroup s g
  pub master_named : (g : ℕ) → IsMaster s g → IsGroup s g
  pub down : (h g : ℕ) → master_of_group s h ≡ Some g → g < h
  pub fresh : (g : ℕ) → IsGroup s g → g ≤ s.last_group

-- every master has members
abbrev pub IsPeopled : PeerGroups → Type 0
IsPeopled s = (g : ℕ) → IsMaster s g → HasMembers s g

-- both
pub record IsSound (s : PeerGroups) : Type 0 where
  pub orderly : IsOrderly s
  pub peopled : IsPeopled s

-- the law of receivers: of two mounts that were there before, none receives from the other
-- unless it did already
abbrev pub AddsNoReceivers : PeerGroups → PeerGroups → Type 0
AddsNoReceivers old new =
    (b c : ℕ) → is_some (member_row old.members b) ≡ true →
    is_some (member_row old.members c) ≡ true → Receives new b c → Receives old b c
