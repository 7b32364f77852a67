-- What a walk over the peer groups under another meets (sharedsubtree.rst, 5a).
use Rattle.std.specs.Prelude.{◌≡◌, ◌==◌, ◌++◌, ℕ, suc, is_none, List, [], ◌∷◌, filter, length, Option, Some, None, if◌then◌else◌}
use Rattle.am_names.specs.PeerGroups.{PeerGroups}
use Rattle.am_group.specs.Propagation.{group_of}
use Rattle.am_group.specs.Changes.{has_members}
use Rattle.am_group.specs.Copies.{has_receiver}
use Rattle.am_group.specs.Indexed.{is_in, has_master, is_below_it, mounts_where, groups_where}
use Rattle.am_group.specs.Receivers.{is_at_or_under, receivers_of}

-- how often the number stands in the list
abbrev pub count : ℕ → List ℕ → ℕ
count x [] = 0
count x (y ∷ ys) = if x == y then suc (count x ys) else count x ys

-- the peer groups below this one that have members
abbrev pub live_below : PeerGroups → ℕ → List ℕ
live_below s g = filter (has_members s.members) (groups_where (is_below_it g) s.groups)

-- these are the peer group and those under it, each once
abbrev pub AreMet : PeerGroups → ℕ → List ℕ → Type 0
AreMet s own groups = (g : ℕ) → count g groups ≡ (if is_at_or_under s own g then 1 else 0)

-- the mounts whose home is the peer group: its members, and its slaves that are in no peer group
abbrev pub homed_at : PeerGroups → ℕ → List ℕ
homed_at s g =
    mounts_where (is_in g) s.members ++
    filter (λ m. is_none (group_of s m)) (mounts_where (has_master g) s.members)

-- how many peer groups have a member among the mount and its receivers
abbrev pub reached : PeerGroups → ℕ → ℕ
reached s mount =
    length (filter (λ row. has_receiver s (mount ∷ receivers_of s mount) row.group) s.groups)

-- none where the mount is in no peer group
abbrev pub turns_where : Option ℕ → PeerGroups → ℕ → ℕ
turns_where None s mount = 0
turns_where (Some own) s mount = reached s mount

-- how many peer groups propagation from the mount meets
abbrev pub turns_of : PeerGroups → ℕ → ℕ
turns_of s mount = turns_where (group_of s mount) s mount
