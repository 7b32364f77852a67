-- Which mounts receive propagation from another (sharedsubtree.rst, 5a).
use Rattle.std.specs.Prelude.{◌≡◌, ◌≢◌, ◌⊎◌, ◌==◌, ℕ, List, [], ◌∷◌, Option, Some, None, find}
use Rattle.am_names.specs.PeerGroups.{PeerGroups}
use Rattle.am_names.specs.{MemberRow, GroupRow}

-- the row of the mount
abbrev pub member_row : List MemberRow → ℕ → Option MemberRow
member_row members m = find (λ row. row.mount == m) members

-- the row of the peer group
abbrev pub group_row : List GroupRow → ℕ → Option GroupRow
group_row groups g = find (λ row. row.group == g) groups

-- the peer group of a row that was looked up
abbrev pub group_in : Option MemberRow → Option ℕ
group_in None = None
group_in (Some row) = row.group

-- the master of a row that was looked up, which is in no peer group
abbrev pub slave_in : Option MemberRow → Option ℕ
slave_in None = None
slave_in (Some row) = row.master

-- the master of a peer group's row that was looked up
abbrev pub master_in : Option GroupRow → Option ℕ
master_in None = None
master_in (Some row) = row.master

-- the peer group that the mount is in
abbrev pub group_of : PeerGroups → ℕ → Option ℕ
group_of s m = group_in (member_row s.members m)

-- the master of the peer group
abbrev pub master_of_group : PeerGroups → ℕ → Option ℕ
master_of_group s g = master_in (group_row s.groups g)

-- the master of the peer group, else the mount's own
abbrev pub master_where : PeerGroups → Option ℕ → Option ℕ → Option ℕ
master_where s (Some group) own = master_of_group s group
master_where s None own = own

-- the master of the mount: a shared mount has that of its peer group, another its own
abbrev pub master_of : PeerGroups → ℕ → Option ℕ
master_of s m = master_where s (group_of s m) (slave_in (member_row s.members m))

-- an event on b propagates to c at once: c is a peer of b, or a slave of b's peer group
abbrev pub PropagatesTo : PeerGroups → ℕ → ℕ → Type 0
PropagatesTo s b c =
    (g : ℕ) × (group_of s b ≡ Some g) × ((group_of s c ≡ Some g) ⊎ (master_of s c ≡ Some g))

-- an event on b reaches c by way of these mounts, each of which propagates to the next
abbrev pub PropagatesBy : PeerGroups → List ℕ → ℕ → ℕ → Type 0
PropagatesBy s [] b c = PropagatesTo s b c
PropagatesBy s (next ∷ way) b c = PropagatesTo s b next × PropagatesBy s way next c

-- c receives propagation from b: it is another mount, and there is a way to it
pub record Receives (s : PeerGroups) (b c : ℕ) : Type 0 where
  pub is_other : c ≢ b
  pub way : List ℕ
  pub arrives : PropagatesBy s way b c
