-- Numbers among others, and rows in the order of their numbers: own choice (docs/DECISIONS.md,
-- "Numbers are newtypes seen as plain numbers").
use Rattle.std.specs.Prelude.{◌≤◌, ◌+◌, ◌==◌, ℕ, Bool, List, [], ◌∷◌}
use Rattle.std.specs.List.{list_any}

-- the number is one of these
abbrev pub is_among : List ℕ → ℕ → Bool
is_among numbers number = list_any (λ other. other == number) numbers

-- the rows stand in rising order of their numbers, from this one on, each number once
abbrev pub RiseBy : {R : Type 0} → (R → ℕ) → ℕ → List R → Type 0
RiseBy number low [] = Unit {0}
RiseBy number low (row ∷ rows) = (low ≤ number row) × RiseBy number (number row + 1) rows
