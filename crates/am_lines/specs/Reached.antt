-- How far a text is good: own choice (docs/DECISIONS.md, "Out of memory in a head is told at a line
-- that was read").
use Rattle.std.specs.Prelude.{◌≡◌, ℕ, List, ◌∷◌, ◌++◌}
use Rattle.std.specs.List.{flat_map}
use Rattle.am_lines.specs.Lines.{Line, lines_from}
use Rattle.am_lines.specs.Words.{Statement, statement_of}

-- a line of this number stands in the text, and the statements above it are good
pub record IsReached (Good : List Statement → Type 0) (text : List ℕ) (number : ℕ) : Type 0 where
  pub above : List Line
  pub bytes : List ℕ
  pub below : List Line
  pub stands : lines_from 1 text ≡ above ++ record { number = number; bytes = bytes } ∷ below
  pub good : Good (flat_map statement_of above)
