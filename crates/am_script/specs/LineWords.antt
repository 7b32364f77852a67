-- How many words a line has: own choice (docs/FORMATS.md, "Events").
use Rattle.std.specs.Prelude.{ℕ, Bool, true, false, List, [], ◌∷◌}

-- the line has one word
abbrev pub is_one : List (List ℕ) → Bool
is_one (a ∷ []) = true
is_one words = false

-- the line has two words
abbrev pub are_two : List (List ℕ) → Bool
are_two (a ∷ b ∷ []) = true
are_two words = false

-- the line has three words
abbrev pub are_three : List (List ℕ) → Bool
are_three (a ∷ b ∷ c ∷ []) = true
are_three words = false

-- the line has five words
abbrev pub are_five : List (List ℕ) → Bool
are_five (a ∷ b ∷ c ∷ d ∷ e ∷ []) = true
are_five words = false
