-- What is searched without a prefix: own choice (docs/FORMATS.md, "Parts of a scene").
use Rattle.std.specs.Prelude.{ℕ, []}
use Rattle.am_explore.specs.{Question, Seen}
use Rattle.am_scenes.specs.{Told}
use Rattle.am_findings.specs.declared.explore.Part.{Part}
use Rattle.am_findings.specs.Explored.{Answers, AnswersFrom, IsPart, start_of}

-- the orders that begin with no choices are all orders from where the scene begins
abbrev pub IsWholeWithout : Type 0
IsWholeWithout =
    (told : Told) (part : Part) (most : ℕ) (question : Question) (seen : Seen) → IsPart told [] part →
    Answers told part most question seen → AnswersFrom told (start_of told) most question seen
