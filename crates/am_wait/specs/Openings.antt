-- The open tokens of each trigger: own choice.
use Rattle.std.specs.Prelude.{◌≡◌, ◌<◌, ◌==◌, ℕ, not, List, [], ◌∷◌, ◌++◌, map, filter, Option, Some, None, Vec, if◌then◌else◌}
use Rattle.std.specs.Vec.{vec_len, vec_capacity}
use Rattle.indexmap.specs.IndexMap.{get}
use Rattle.am_names.specs.{same_trigger, eq-value}
use Rattle.am_names.specs.declared.trigger.Trigger.{Trigger}
use Rattle.am_wait.specs.declared.held.HeldToken.{HeldToken}
use Rattle.am_wait.specs.declared.openings.Opening.{Opening}
use Rattle.am_wait.specs.declared.openings.Openings.{Openings}

-- the tokens of a list that was looked up, none where there is no list
abbrev pub listed_in : {Z : Type 0} → Option (Vec Opening Z) → List Opening
listed_in None = []
listed_in (Some list) = list.items

-- the open tokens of a trigger
abbrev pub listed : Openings → Trigger → List Opening
listed openings trigger = listed_in (get eq-value.it openings.lists trigger)

-- there is a list, with room for one more
abbrev pub RoomIn : {Z : Type 0} → Option (Vec Opening Z) → Type 0
RoomIn None = ⊥
RoomIn (Some list) = vec_len list < vec_capacity list

-- there is room for one more token of the trigger
abbrev pub HasRoom : Openings → Trigger → Type 0
HasRoom openings trigger = RoomIn (get eq-value.it openings.lists trigger)

-- all but this token
abbrev pub but : ℕ → List Opening → List Opening
but token openings = filter (λ opening. not (opening.token == token)) openings

-- both have the same lists
abbrev pub SameLists : Openings → Openings → Type 0
SameLists old new = (g : Trigger) → listed new g ≡ listed old g

-- it is the last in the list of the trigger
abbrev pub AddsTo : Trigger → Opening → Openings → Openings → Type 0
AddsTo trigger opening old new =
    (g : Trigger) →
    listed new g ≡ (if same_trigger trigger g then listed old g ++ opening ∷ [] else listed old g)

-- the token isn't in the list of the trigger
abbrev pub TakesFrom : Trigger → ℕ → Openings → Openings → Type 0
TakesFrom trigger token old new =
    (g : Trigger) →
    listed new g ≡ (if same_trigger trigger g then but token (listed old g) else listed old g)

-- no trigger of the file system has a token
abbrev pub TakesAllOf : ℕ → Openings → Openings → Type 0
TakesAllOf fs old new =
    (g : Trigger) → listed new g ≡ (if g.fs == fs then [] else listed old g)

-- ---- the same by the rows of the tokens

-- what a list has of a token
abbrev pub opening_of : HeldToken → Opening
opening_of row = record { token = row.token; kind = row.kind }

-- the tokens of a trigger among the rows
abbrev pub openings_at : List HeldToken → Trigger → List Opening
openings_at tokens trigger =
    map opening_of (filter (λ row. same_trigger row.trigger trigger) tokens)

-- each trigger has the list of its tokens
abbrev pub AreThose : List HeldToken → Openings → Type 0
AreThose tokens openings = (g : Trigger) → listed openings g ≡ openings_at tokens g
