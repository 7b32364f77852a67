-- What a mount on a shared mount adds: a copy on each receiver (sharedsubtree.rst, 5b and 5e).
-- Their peer groups: own choice (docs/DECISIONS.md, "Copies in groups").
use Rattle.std.specs.Prelude.{◌≡◌, ◌==◌, ◌&&◌, ◌+◌, ℕ, Bool, false, not, nat_lt, List, [], ◌∷◌, ◌++◌, map, filter, length, Option, Some, None, option_map, if◌then◌else◌}
use Rattle.std.specs.List.{list_any}
use Rattle.am_names.specs.{MemberRow, GroupRow, is_among}
use Rattle.am_names.specs.PeerGroups.{PeerGroups}
use Rattle.am_group.specs.Propagation.{member_row, slave_in, group_of, master_of_group}
use Rattle.am_group.specs.Changes.{is_just}

-- these rows and groups are added, and nothing else changes
abbrev pub added : List MemberRow → List GroupRow → ℕ → PeerGroups → PeerGroups
added ms gs last s =
    record { members = s.members ++ ms; groups = s.groups ++ gs; last_group = last }

-- these rows and groups are added, the groups with the next numbers
abbrev pub all_added : List MemberRow → List GroupRow → PeerGroups → PeerGroups
all_added ms gs s = added ms gs (s.last_group + length gs) s

-- one of the receivers is in the peer group
abbrev pub has_receiver : PeerGroups → List ℕ → ℕ → Bool
has_receiver s receivers g = list_any (λ r. is_just g (group_of s r)) receivers

-- these are the peer groups that the receivers are in
abbrev pub AreOfReceivers : PeerGroups → List ℕ → List ℕ → Type 0
AreOfReceivers s receivers groups = (g : ℕ) → is_among groups g ≡ has_receiver s receivers g

-- the peer groups that the receivers are in, without the one of the mount at the place
abbrev pub receiving_groups : PeerGroups → List ℕ → ℕ → List ℕ
receiving_groups s receivers own =
    filter (λ g. not (g == own) && has_receiver s receivers g) (map (λ row. row.group) s.groups)

-- how many of these numbers are below this one
abbrev pub rank : ℕ → List ℕ → ℕ
rank g groups = length (filter (λ x. nat_lt x g) groups)

-- the group that stands among the copies for an old one: the new mount's for the place's own,
-- for each other one a fresh one, numbered in rising order of the old groups
abbrev pub stand_in : ℕ → ℕ → ℕ → List ℕ → ℕ → ℕ
stand_in own new last groups g = if g == own then new else last + 1 + rank g groups

-- the copy on a receiver in a group is in the group that stands for it; on a receiver that is
-- only a slave it is a slave of the group that stands for that one's master
abbrev pub copy_row : (ℕ → ℕ) → ℕ → Option ℕ → Option ℕ → MemberRow
copy_row stand number (Some group) master =
    record { mount = number; group = Some (stand group); master = None; unbindable = false }
copy_row stand number None master =
    record { mount = number; group = None; master = option_map stand master; unbindable = false }

-- one copy for each receiver, numbered in their order
abbrev pub copies_from : (ℕ → ℕ) → PeerGroups → ℕ → List ℕ → List MemberRow
copies_from stand s number [] = []
copies_from stand s number (r ∷ receivers) =
    copy_row stand number (group_of s r) (slave_in (member_row s.members r)) ∷
    copies_from stand s (number + 1) receivers

-- a fresh group's master is the group that stands for the old group's master
abbrev pub group_copies : (ℕ → ℕ) → PeerGroups → List ℕ → List GroupRow
group_copies stand s groups =
    map (λ g. record { group = stand g; master = option_map stand (master_of_group s g) }) groups

-- a new mount in the group `new`, at a place of a mount in the group `own` that has these receivers
abbrev pub copied : ℕ → List ℕ → ℕ → ℕ → PeerGroups → PeerGroups
copied own receivers number new s =
    let groups = receiving_groups s receivers own in
    let stand = stand_in own new s.last_group groups in
    let first : MemberRow =
    record { mount = number; group = Some new; master = None; unbindable = false } in
    let last = s.last_group + length groups in
    added (first ∷ copies_from stand s (number + 1) receivers) (group_copies stand s groups) last s
