-- The lines of a text, and those that are skipped. The words of a line are am_lines'.
-- Own choice (docs/FORMATS.md, "Lines and words").
use Rattle.std.specs.Prelude.{◌≡◌, ℕ, ◌+◌, Bool, true, false, nat_lt, All, List, [], ◌∷◌, ◌++◌, length, Option, None, Some}
use Rattle.std.specs.List.{slice_split}
use Rattle.am_lines.specs.{is_line_feed, begins_with}

-- the lines of a text: what stands between line feeds. Behind a last line feed there is a line
-- without bytes, which is skipped.
abbrev pub lines_of : List ℕ → List (List ℕ)
lines_of text = slice_split is_line_feed text

-- the lines of what is left of a text, if something is
abbrev pub lines_in : Option (List ℕ) → List (List ℕ)
lines_in None = []
lines_in (Some text) = lines_of text

-- how many bytes are left, a line feed before them counted
abbrev pub size_in : Option (List ℕ) → ℕ
size_in None = 0
size_in (Some text) = length text + 1

-- the line has more than 8,192 bytes, its line feed not counted
abbrev pub is_long : List ℕ → Bool
is_long line = nat_lt 8192 (length line)

-- these are the words of a line that is skipped: there is none, or the first begins with `#`
abbrev pub are_skipped : List (List ℕ) → Bool
are_skipped [] = true
are_skipped (word ∷ words) = begins_with 35 word

-- no line ends among these bytes
abbrev pub EndsNoLine : List ℕ → Type 0
EndsNoLine bytes = All (λ b. is_line_feed b ≡ false) bytes

-- the first line of these bytes ends, and these stand behind its line feed
pub record IsCut (bytes line rest : List ℕ) : Type 0 where
  pub parts : bytes ≡ line ++ 10 ∷ rest
  pub whole : EndsNoLine line
