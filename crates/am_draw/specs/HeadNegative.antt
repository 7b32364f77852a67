-- How long failures last, by the head of a script: the line that says so stands first, or behind that of the
-- limits (docs/FORMATS.md, "The head").
use Rattle.std.specs.Prelude.{◌≡◌, ℕ, not, List, [], ◌∷◌, map, filter, drop, Option, None, Some, if◌then◌else◌}
use Rattle.am_lines.specs.{words_of}
use Rattle.am_machine.specs.{Setup}
use Rattle.am_script.specs.{are_skipped, is_limits, is_negative, negative_read}
use Rattle.am_script.specs.Script.{Script}

-- the words of the lines that aren't skipped
abbrev pub said : List (List ℕ) → List (List (List ℕ))
said lines = filter (λ words. not (are_skipped words)) (map words_of lines)

-- so many seconds, and none where none are told
abbrev pub or_none : Option ℕ → ℕ
or_none None = 0
or_none (Some seconds) = seconds

-- so many as these words tell, if they tell that
abbrev pub negative_by : List (List ℕ) → ℕ
negative_by words = if is_negative words then or_none (negative_read (drop 1 words)) else 0

-- so many as the first of these lines tells
abbrev pub negative_first : List (List (List ℕ)) → ℕ
negative_first [] = 0
negative_first (words ∷ others) = negative_by words

-- or as the second does, behind the limits
abbrev pub negative_in : List (List (List ℕ)) → ℕ
negative_in [] = 0
negative_in (words ∷ others) = if is_limits words then negative_first others else negative_by words

-- failures last so many seconds in the script, if it has a world
abbrev pub LastFor : ℕ → Script → Type 0
LastFor negative script = (opening : Setup) → script.opening ≡ Some opening → negative ≡ opening.limits.negative
