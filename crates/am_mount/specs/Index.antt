-- The mounts that share a number: a namespace, or a bucket of places. Own choice.
use Rattle.std.specs.Prelude.{◌≡◌, ℕ, Bool, nat_eq, List, [], ◌∷◌, ◌++◌, Option, Some, None, slice_get, if◌then◌else◌}
use Rattle.std.specs.List.Sorted.{IsStrictlyIncreasing}
use Rattle.indexmap.specs.IndexMap.{get, keys, values}
use Rattle.am_names.specs.{MountRow}
use Rattle.am_mount.specs.declared.few.Few.{Few}
use Rattle.am_mount.specs.declared.index.Index.{Index}
use Rattle.am_mount.specs.Rows.{mounts_where}
use Rattle.am_mount.specs.Few.{mounts_in, HasRoomIn, but}

-- the mounts of a list that was looked up, none where there is no list
abbrev pub listed_in : Option Few → List ℕ
listed_in None = []
listed_in (Some list) = mounts_in list

-- the mounts that have the number
abbrev pub listed : Index → ℕ → List ℕ
listed index n = listed_in (get nat_eq index.lists n)

-- there is a list, with room for one more mount
abbrev pub RoomIn : Option Few → Type 0
RoomIn None = ⊥
RoomIn (Some list) = HasRoomIn list

-- the number whose list stands at this place
abbrev pub number_at : Index → ℕ → Option ℕ
number_at index place = slice_get (keys index.lists) place

-- a list stands at this place, with room for one more mount
abbrev pub HasRoomAt : Index → ℕ → Type 0
HasRoomAt index place = RoomIn (slice_get (values index.lists) place)

-- it is the list of the number that stands at this place, with room for one more mount
abbrev pub HasRoom : Index → ℕ → ℕ → Type 0
HasRoom index n place = (number_at index place ≡ Some n) × HasRoomAt index place

-- both have the same lists
abbrev pub SameLists : Index → Index → Type 0
SameLists old new = (n : ℕ) → listed new n ≡ listed old n

-- the mount stands last in the lists of the numbers that it has
abbrev pub AddsTo : (ℕ → Bool) → ℕ → Index → Index → Type 0
AddsTo has m old new =
    (n : ℕ) → listed new n ≡ (if has n then listed old n ++ m ∷ [] else listed old n)

-- the mount is in no list of the numbers that it has
abbrev pub TakesFrom : (ℕ → Bool) → ℕ → Index → Index → Type 0
TakesFrom has m old new =
    (n : ℕ) → listed new n ≡ (if has n then but m (listed old n) else listed old n)

-- each number has the list of the mounts whose rows pass its test
abbrev pub IsIndex : (ℕ → MountRow → Bool) → List MountRow → Index → Type 0
IsIndex test rows index = (n : ℕ) → listed index n ≡ mounts_where (test n) rows

-- each of its lists rises
abbrev pub ListsRise : Index → Type 0
ListsRise index = (n : ℕ) → IsStrictlyIncreasing (listed index n)
