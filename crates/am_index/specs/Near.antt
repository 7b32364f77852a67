-- Where the value of a number stands in a map, and the places beside one another. Own choice.
use Rattle.std.specs.Prelude.{◌≡◌, ◌≤◌, ◌+◌, ℕ, Some, slice_get}
use Rattle.indexmap.specs.IndexMap.{IndexMap, keys}

-- the number's value stands at this place
abbrev pub StandsAt : {V S : Type 0} → IndexMap ℕ V S → ℕ → ℕ → Type 0
StandsAt values n place = slice_get (keys values) place ≡ Some n

-- it is this place, the one before it or the one behind it
pub record IsBeside (here place : ℕ) : Type 0 where
  pub before : place ≤ here + 1
  pub behind : here ≤ place + 1
