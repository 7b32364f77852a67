-- Numbers by a number that they share. Own choice.
use Rattle.std.specs.Prelude.{◌≡◌, ◌<◌, ◌==◌, ◌&&◌, ◌||◌, ℕ, Bool, true, false, nat_eq, nat_lt, not, List, [], ◌∷◌, ◌++◌, ◌-◌, length, take, map, filter, Option, Some, None, slice_get, Vec, if◌then◌else◌}
use Rattle.std.specs.Vec.{vec_len, vec_capacity}
use Rattle.std.specs.List.Sorted.{IsStrictlyIncreasing}
use Rattle.indexmap.specs.IndexMap.{get, keys}
use Rattle.am_names.specs.{is_among}
use Rattle.am_index.specs.declared.lists.Index.{Index}

-- the numbers of a list that was looked up, none where there is no list
abbrev pub listed_in : {Z : Type 0} → Option (Vec ℕ Z) → List ℕ
listed_in None = []
listed_in (Some list) = list.items

-- those that have the number
abbrev pub listed : Index → ℕ → List ℕ
listed index n = listed_in (get nat_eq index.lists n)

-- the number whose list stands at this place
abbrev pub number_at : Index → ℕ → Option ℕ
number_at index place = slice_get (keys index.lists) place

-- there is a list, with room for one more
abbrev pub RoomIn : {Z : Type 0} → Option (Vec ℕ Z) → Type 0
RoomIn None = ⊥
RoomIn (Some list) = vec_len list < vec_capacity list

-- there is room for one more that has the number
abbrev pub HasRoom : Index → ℕ → Type 0
HasRoom index n = RoomIn (get nat_eq index.lists n)

-- all but this one
abbrev pub but : ℕ → List ℕ → List ℕ
but m items = filter (λ x. not (x == m)) items

-- this one between those that are lower and those that are higher
abbrev pub with : ℕ → List ℕ → List ℕ
with m items = filter (λ x. nat_lt x m) items ++ m ∷ filter (λ x. nat_lt m x) items

-- all but the last
abbrev pub front : List ℕ → List ℕ
front items = take (length items - 1) items

-- a list from which a number goes, or to which it comes
abbrev pub moved : Bool → Bool → ℕ → List ℕ → List ℕ
moved true true m items = items
moved false false m items = items
moved true false m items = but m items
moved false true m items = with m items

-- both have the same lists
abbrev pub SameLists : Index → Index → Type 0
SameLists old new = (n : ℕ) → listed new n ≡ listed old n

-- it stands last in the lists of the numbers that it has
abbrev pub AddsTo : (ℕ → Bool) → ℕ → Index → Index → Type 0
AddsTo has m old new =
    (n : ℕ) → listed new n ≡ (if has n then listed old n ++ m ∷ [] else listed old n)

-- it stands at its place in the lists of the numbers that it has
abbrev pub PutsInto : (ℕ → Bool) → ℕ → Index → Index → Type 0
PutsInto has m old new =
    (n : ℕ) → listed new n ≡ (if has n then with m (listed old n) else listed old n)

-- it is in no list of the numbers that it has
abbrev pub TakesFrom : (ℕ → Bool) → ℕ → Index → Index → Type 0
TakesFrom has m old new =
    (n : ℕ) → listed new n ≡ (if has n then but m (listed old n) else listed old n)

-- the last is in no list of the numbers that it has
abbrev pub DropsLast : (ℕ → Bool) → Index → Index → Type 0
DropsLast has old new =
    (n : ℕ) → listed new n ≡ (if has n then front (listed old n) else listed old n)

-- each of its lists rises
abbrev pub ListsRise : Index → Type 0
ListsRise index = (n : ℕ) → IsStrictlyIncreasing (listed index n)

-- whether it has the number
abbrev pub has : Index → ℕ → ℕ → Bool
has index n x = is_among (listed index n) x

-- those that have the one number have the other too
pub record Joins (from to : ℕ) (old new : Index) : Type 0 where
  pub rising : ListsRise new
  pub has : (n x : ℕ) → has new n x ≡ (has old n x || (to == n && has old from x))

-- those that have the one number have not the other
pub record Parts (from to : ℕ) (old new : Index) : Type 0 where
  pub rising : ListsRise new
  pub has : (n x : ℕ) → has new n x ≡ (has old n x && not (to == n && has old from x))

-- none has the number
abbrev pub Drops : ℕ → Index → Index → Type 0
Drops number old new =
    (n : ℕ) → listed new n ≡ (if nat_eq number n then [] else listed old n)

-- there is still room for one more that has another number
abbrev pub KeepsOtherRoom : ℕ → Index → Index → Type 0
KeepsOtherRoom number old new =
    (n : ℕ) → nat_eq number n ≡ false → HasRoom old n → HasRoom new n

-- the numbers of the rows that pass the test
abbrev pub numbered : {R : Type 0} → (R → ℕ) → (R → Bool) → List R → List ℕ
numbered number test rows = map number (filter test rows)

-- each number has the list of those whose rows pass its test
abbrev pub IsIndexOf : {R : Type 0} → (R → ℕ) → (ℕ → R → Bool) → List R → Index → Type 0
IsIndexOf number test rows index = (n : ℕ) → listed index n ≡ numbered number (test n) rows
