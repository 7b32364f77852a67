-- Answers that own memory are made before the event: own choice (docs/DECISIONS.md, "Answers are
-- made twice").
use Rattle.std.specs.Prelude.{◌≡◌, Bool, true, false, Option, Some, None}
use Rattle.am_names.specs.{Position}
use Rattle.am_machine.specs.{Answer}
use Rattle.am_machine.specs.declared.answer.Answer.TheVariants as answers

-- the answer owns memory
abbrev pub owns : Answer → Bool
owns (answers.At position) = true
owns (answers.Gone mounts) = true
owns _ = false

-- this was made for the answer, if it owns memory
abbrev pub IsMadeAhead : Option Answer → Answer → Type 0
IsMadeAhead None answer = owns answer ≡ false
IsMadeAhead (Some made_ahead) answer = owns answer ≡ true → made_ahead ≡ answer

-- the answer to a walk that arrives there, if it does
abbrev pub arrival_told : Option Position → Option Answer
arrival_told None = None
arrival_told (Some at) = Some (answers.At at)
