-- The failures, and the room that is made for more of them: own choice (docs/DECISIONS.md, "A failure
-- has a number, and may last").
use Rattle.std.specs.Prelude.{ℕ}
use Rattle.am_trigger.specs.Failures.{FailureRows}

-- what failed last at each trigger, with the room for more
pub record FailureTable : Type 0 where
  pub rows : FailureRows
  -- at how many more triggers something may fail, and no memory is taken
  pub room : ℕ
