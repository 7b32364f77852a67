-- How the text of a map is cut into lines (autofs(5), "SUN FORMAT"; auto.master(5), "FORMAT").
-- Lines end with a line feed, the last one possibly without; a backslash before a line end
-- goes together with it.
use Rattle.std.specs.Prelude.{ℕ, ◌+◌, ◌-◌, ◌==◌, Bool, List, [], ◌∷◌, ◌++◌, length, take, drop, if◌then◌else◌}
use Rattle.std.specs.Str.{bytes_eq}
use Rattle.std.specs.List.{slice_split}

-- a line after joining, with the number of the first of its raw lines, from 1
pub record Line : Type 0 where
  pub number : ℕ
  pub bytes : List ℕ

-- the byte ends a raw line
abbrev pub is_line_feed : ℕ → Bool
is_line_feed b = b == 10

-- how many raw lines a text has
abbrev pub raw_lines_in : List ℕ → ℕ
raw_lines_in text = length (slice_split is_line_feed text)

-- a raw line whose last byte is a backslash is joined with the one that follows
abbrev pub is_joined : List ℕ → Bool
is_joined raw = bytes_eq (drop (length raw - 1) raw) (92 ∷ [])

-- what stands before the backslash
abbrev pub before_backslash : List ℕ → List ℕ
before_backslash raw = take (length raw - 1) raw

-- the first line begins with these bytes, on the raw line of this number; where no line follows
-- they are a line by themselves
abbrev pub put_before : ℕ → List ℕ → List Line → List Line
put_before number front [] = record { number = number; bytes = front } ∷ []
put_before number front (line ∷ lines) =
    record { number = number; bytes = front ++ line.bytes } ∷ lines

-- the lines that the raw lines make, the first of which has this number
abbrev pub joined : ℕ → List (List ℕ) → List Line
joined number [] = []
joined number (raw ∷ raws) =
    if is_joined raw then put_before number (before_backslash raw) (joined (number + 1) raws)
    else record { number = number; bytes = raw } ∷ joined (number + 1) raws

-- the lines of a text that begins at the raw line of this number
abbrev pub lines_from : ℕ → List ℕ → List Line
lines_from number text = joined number (slice_split is_line_feed text)
