-- What the fields stand for.
use Rattle.am_names.specs.PeerGroups.{PeerGroups}
use Rattle.am_group.specs.declared.groups.Groups.TheInside.{Inside}
use Rattle.am_group.specs.Invariant.{IsOrderly}
use Rattle.am_group.specs.Indexed.{AreIndexed}

-- the mounts, their peer groups, and the greatest number that one had
abbrev pub view_of : Inside → PeerGroups
view_of g = record { members = g.members.rows; groups = g.groups.rows; last_group = g.last_group }

-- the peer groups are orderly, and are indexed
pub record IsKept (g : Inside) : Type 0 where
  pub orderly : IsOrderly (view_of g)
  pub indexed : AreIndexed (view_of g) g.indexes
