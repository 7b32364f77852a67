-- The lines of a text of which the first are left out: own choice (docs/FORMATS.md, "Below a fault").
use Rattle.std.specs.Prelude.{◌≡◌, ℕ, List, [], ◌++◌, drop, Option, None, Some}
use Rattle.std.specs.List.{slice_split}
use Rattle.am_lines.specs.{is_line_feed}

-- the lines of a text
abbrev pub raw_lines : List ℕ → List (List ℕ)
raw_lines text = slice_split is_line_feed text

-- the lines of what is left of a text, if something is
abbrev pub left_lines : Option (List ℕ) → List (List ℕ)
left_lines None = []
left_lines (Some text) = raw_lines text

-- So many lines of the text are left out, and this is left: its lines are those behind them, whatever
-- follows.
abbrev pub LeavesLines : ℕ → List ℕ → List ℕ → Type 0
LeavesLines above text left =
    (more : List ℕ) → drop above (raw_lines (text ++ more)) ≡ raw_lines (left ++ more)
