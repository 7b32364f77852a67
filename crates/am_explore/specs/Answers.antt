-- What an answer means for the order of a scene: own choice (docs/DECISIONS.md, "All orders of a scene").
use Rattle.std.specs.Prelude.{ℕ, ◌+◌, Bool, true, false, not, List, [], ◌∷◌, if◌then◌else◌}
use Rattle.am_names.specs.declared.errno.Errno.TheVariants.{NoMemory, NotReleased}
use Rattle.am_machine.specs.{Answer, Event}
use Rattle.am_machine.specs.declared.answer.Answer.TheVariants as answers
use Rattle.am_machine.specs.declared.event.Event.TheVariants as events
use Rattle.am_explore.specs.declared.choice.Who.{Who}
use Rattle.am_explore.specs.declared.choice.Who.TheVariants as who

-- the walker waits
abbrev pub is_wait : Answer → Bool
is_wait (answers.Wait token) = true
is_wait _ = false

-- the walker isn't released yet
abbrev pub is_not_released : Answer → Bool
is_not_released (answers.Refused NotReleased) = true
is_not_released _ = false

-- memory ran out
abbrev pub is_no_memory : Answer → Bool
is_no_memory (answers.Refused NoMemory) = true
is_no_memory _ = false

-- nothing has changed
abbrev pub is_refused : Answer → Bool
is_refused (answers.Refused errno) = true
is_refused _ = false

-- What a thread is refused is an answer to it, but where it is to wait on; what the daemon is refused
-- is no step.
abbrev pub is_step : Who → Answer → Bool
is_step (who.Thread thread) answer = not (is_not_released answer)
is_step who.Daemon answer = not (is_refused answer)

-- a waiting walker goes on
abbrev pub is_resume : Event → Bool
is_resume (events.Resume walker now pipe) = true
is_resume _ = false

-- how many of these events come before one by which no walker goes on
abbrev pub resumes : List Event → ℕ
resumes [] = 0
resumes (event ∷ later) = if is_resume event then resumes later + 1 else 0
