-- What the questions of a scene ask, as their words say it: own choice (docs/FORMATS.md, "Questions of
-- a scene").
use Rattle.std.specs.Prelude.{ℕ, List}
use Rattle.am_lines.specs.{words_of}
use Rattle.am_explore.specs.{Question, Sought}
use Rattle.am_explore.specs.declared.question.Question.TheVariants as questions
use Rattle.am_scenes.specs.declared.asked.Asked.{Asked}
use Rattle.am_scenes.specs.declared.asked.Claim.{Claim}

-- what is asked of the end of an order
pub data Asks : Type 0 where
  -- whether this event of this thread, both by their indexes, has such an answer
  AsksAnswer : ℕ → ℕ → Sought → Asks
  -- whether this thread has events left
  AsksWait : ℕ → Asks
  -- whether the world's text has a line of these words
  AsksLine : List (List ℕ) → Asks
  -- whether it has none
  AsksNoLine : List (List ℕ) → Asks

-- what a question asks
abbrev pub asks_of : Question → Asks
asks_of (questions.Answered thread event sought) = AsksAnswer thread event sought
asks_of (questions.Waiting thread) = AsksWait thread
asks_of (questions.Shows line) = AsksLine (words_of line.items)
asks_of (questions.Lacks line) = AsksNoLine (words_of line.items)

-- a line that asks: its number, which answer is as asked, and what it asks
pub record AskedLine : Type 0 where
  pub line : ℕ
  pub claim : Claim
  pub asks : Asks

-- the line of a question
abbrev pub asked_line : Asked → AskedLine
asked_line asked = record { line = asked.line; claim = asked.claim; asks = asks_of asked.question }
