-- A line, as much of it as is shown round a column, and what was expected there: own choice
-- (docs/FORMATS.md, "Below a fault").
use Rattle.std.specs.Prelude.{ℕ, ◌+◌, ◌-◌, ◌==◌, Bool, ◌||◌, nat_lt, nat_le, List, [], ◌∷◌, ◌++◌, codes, decimal, length, map, take, drop, replicate, if◌then◌else◌}
use Rattle.std.specs.List.{flat_map}

-- the byte that is shown for a byte: a blank for a tab, and `?` for one that isn't printable ASCII
abbrev pub shown : ℕ → ℕ
shown b = if b == 9 then 32 else if nat_lt b 32 || nat_lt 126 b then 63 else b

-- how many bytes of a line are left out before those that are shown round this column, from 1
abbrev pub left_out : ℕ → ℕ
left_out column = if nat_le column 60 then 0 else column - 41

-- how many bytes are shown before this column
abbrev pub indent : ℕ → ℕ
indent column = column - 1 - left_out column

-- what stands before a line of which so many bytes are left out
abbrev pub margin : ℕ → List ℕ
margin n = if n == 0 then codes "  " else codes ".."

-- what stands behind the 72 bytes that are shown of a line, of which so many are left out before those
abbrev pub cut_mark : List ℕ → ℕ → List ℕ
cut_mark line n = if nat_lt (n + 72) (length line) then codes ".." else []

-- a line, as much of it as is shown round this column: 72 bytes
abbrev pub line_shown : List ℕ → ℕ → List ℕ
line_shown line column =
    margin (left_out column) ++ map shown (take 72 (drop (left_out column) line))
    ++ cut_mark line (left_out column)

-- the end of that line, and one below it that points to this column
abbrev pub pointer : ℕ → List ℕ → List ℕ
pointer column expected =
    flat_map (λ part. part)
    (codes "\n  " ∷ replicate (indent column) 32 ∷ codes "^ column " ∷ decimal column ∷ codes ": expected " ∷ expected
    ∷ codes "\n" ∷ [])

-- what was expected at this column of a line that is joined of several
abbrev pub joined_place : ℕ → List ℕ → List ℕ
joined_place column expected =
    flat_map (λ part. part)
    (codes "  column " ∷ decimal column ∷ codes " of the joined line: expected " ∷ expected ∷ codes "\n" ∷ [])

-- what was expected at this column, below its line, or without it where it is joined of several
abbrev pub place_text : List ℕ → Bool → ℕ → List ℕ → List ℕ
place_text line is_joined column expected =
    if is_joined then joined_place column expected
    else line_shown line column ++ pointer column expected
