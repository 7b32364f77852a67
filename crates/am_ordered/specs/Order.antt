-- An order of places, each place below a bound once: own choice (docs/DECISIONS.md, "A map in
-- order of insertion is a crate of its own").
use Rattle.std.specs.Prelude.{◌≡◌, ℕ, suc, ◌==◌, nat_lt, List, [], ◌∷◌, Option, Some, None, slice_get, if◌then◌else◌}

-- how often a place is in the list
abbrev pub times : ℕ → List ℕ → ℕ
times place [] = 0
times place (other ∷ others) =
    if other == place then suc (times place others) else times place others

-- each place below the count is in the list once, and no other
abbrev pub IsOrderOf : ℕ → List ℕ → Type 0
IsOrderOf count order = (place : ℕ) → times place order ≡ (if nat_lt place count then 1 else 0)

-- the place of what was at `last` and is at `place` now
abbrev pub renamed : ℕ → ℕ → ℕ → ℕ
renamed last place other = if other == last then place else other

-- where the place stands in the list, or none where it isn't there
abbrev pub IsIndexOf : ℕ → List ℕ → Option ℕ → Type 0
IsIndexOf place order None = times place order ≡ 0
IsIndexOf place order (Some index) = slice_get order index ≡ Some place
