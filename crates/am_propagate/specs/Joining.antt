-- The rows of peer groups, as they are made for a mount and its copies: own choice
-- (docs/DECISIONS.md, "Copies in groups").
use Rattle.std.specs.Prelude.{◌≡◌, ◌==◌, ◌+◌, ℕ, nat_lt, List, [], Option, Some, None, option_map, if◌then◌else◌}
use Rattle.am_names.specs.{GroupRow, Membership}
use Rattle.am_names.specs.PeerGroups.{PeerGroups}
use Rattle.am_group.specs.{master_of_group, receiving_groups, rank}
use Rattle.am_propagate.specs.declared.subtree.joining.Joining.{Joining}
use Rattle.am_propagate.specs.declared.subtree.stand_ins.StandIns.{StandIns}
use Rattle.am_propagate.specs.Added.{new_members, new_groups}

-- numbers have 64 bits
abbrev pub in_64_bits : ℕ → ℕ
in_64_bits n = if nat_lt 18446744073709551615 n then 18446744073709551615 else n

-- the group that stands for this one
abbrev pub stand_of : StandIns → ℕ → ℕ
stand_of stands g =
    if g == stands.own then stands.new else in_64_bits (stands.last + 1 + rank g stands.groups.items)

-- the rows for a mount with this source and its copies
pub record AreNew (membership : Membership) (own : Option ℕ) (receivers : List ℕ) (number : ℕ) (s : PeerGroups) (joining : Joining) : Type 0 where
  pub members_are : joining.members.items ≡ new_members membership own receivers number s
  pub groups_are : joining.groups.items ≡ new_groups membership own receivers s

-- the peer groups beside that of the place that receivers are in; none, where it isn't shared
abbrev pub others_of : PeerGroups → List ℕ → Option ℕ → List ℕ
others_of s receivers None = []
others_of s receivers (Some own) = receiving_groups s receivers own

-- the peer group that stands for this one, with the one that stands for its master
abbrev pub group_copy : (ℕ → ℕ) → PeerGroups → ℕ → GroupRow
group_copy stand s g = record { group = stand g; master = option_map stand (master_of_group s g) }
