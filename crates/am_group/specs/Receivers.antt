-- The mounts that receive from another (sharedsubtree.rst, 5a), as a list: chains of masters in
-- place of chains of mounts.
-- `Groups::receivers` shows that both are the same.
use Rattle.std.specs.Prelude.{◌==◌, ◌&&◌, ℕ, Bool, false, not, List, map, filter, take_while, Option, Some, None}
use Rattle.std.specs.Option.{option_or}
use Rattle.am_names.specs.{MemberRow, GroupRow, is_among}
use Rattle.am_names.specs.PeerGroups.{PeerGroups}
use Rattle.am_group.specs.Propagation.{member_row, slave_in, group_of}
use Rattle.am_group.specs.Changes.{has_members, up}
use Rattle.am_group.specs.Scan.{numbers, is_one_of}

-- the mount's peer group, else the one of which it is a slave
abbrev pub home_group : PeerGroups → ℕ → Option ℕ
home_group s m = option_or (group_of s m) (slave_in (member_row s.members m))

-- the same of a row
abbrev pub home_in : MemberRow → Option ℕ
home_in row = option_or row.group row.master

-- the group and its chain of masters, as far as they have members: a group without any hands
-- nothing on
abbrev pub peopled_up : PeerGroups → Option ℕ → List ℕ
peopled_up s start = take_while (has_members s.members) (up s start)

-- the group is there, and it is that of the mount or one up its chain of masters, with no group
-- without members on the way
abbrev pub is_under : PeerGroups → Option ℕ → ℕ → Bool
is_under s None m = false
is_under s (Some g) m = is_among (peopled_up s (home_group s m)) g

-- the mount is another one, and its peer group or master is the sender's peer group or under it
abbrev pub receives : PeerGroups → ℕ → ℕ → Bool
receives s b c = not (c == b) && is_under s (group_of s b) c

-- in rising order
abbrev pub receivers_of : PeerGroups → ℕ → List ℕ
receivers_of s b = filter (receives s b) (numbers s.members)

-- ---- the same by the peer groups under the sender's

-- the group is this one, or this one is up its chain of masters, and all of these have members
abbrev pub is_at_or_under : PeerGroups → ℕ → ℕ → Bool
is_at_or_under s own g = is_among (peopled_up s (Some g)) own

-- the numbers of these peer groups
abbrev pub group_numbers : List GroupRow → List ℕ
group_numbers groups = map (λ row. row.group) groups

-- the peer group and those under it, in rising order
abbrev pub groups_under : PeerGroups → ℕ → List ℕ
groups_under s own = group_numbers (filter (λ row. is_at_or_under s own row.group) s.groups)

-- the other mounts of these rows whose home is one of the groups
abbrev pub under_these : List ℕ → ℕ → List MemberRow → List ℕ
under_these groups mount members =
    numbers (filter (λ row. not (row.mount == mount) && is_one_of groups (home_in row)) members)
