-- The rows of the book, and the room that is made for more of them: own choice (docs/DECISIONS.md,
-- "A map in order of insertion is a crate of its own").
use Rattle.std.specs.Prelude.{ℕ, List}
use Rattle.am_state.specs.{RecordRow}

-- the book as it is kept
pub record BookTable : Type 0 where
  pub rows : List RecordRow
  -- how many more records take no memory
  pub room : ℕ
