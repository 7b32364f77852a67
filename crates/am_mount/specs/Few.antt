-- The mounts of one list, which are mostly one: own choice.
use Rattle.std.specs.Prelude.{◌≤◌, ◌==◌, ℕ, ⊤, not, List, [], ◌∷◌, filter}
use Rattle.am_mount.specs.declared.few.Few.{Few}
use Rattle.am_mount.specs.declared.few.Few.TheVariants.{Empty, One, Many}

-- the mounts of the list
abbrev pub mounts_in : Few → List ℕ
mounts_in Empty = []
mounts_in (One mount) = mount ∷ []
mounts_in (Many mounts) = mounts.value.rows

-- one more mount takes no memory
abbrev pub HasRoomIn : Few → Type 0
HasRoomIn Empty = ⊤
HasRoomIn (One mount) = ⊥
HasRoomIn (Many mounts) = 1 ≤ mounts.value.room

-- the mounts but for this one
abbrev pub but : ℕ → List ℕ → List ℕ
but m mounts = filter (λ x. not (x == m)) mounts
