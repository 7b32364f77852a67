-- What is asked of the end of an order: own choice (docs/DECISIONS.md, "All orders of a scene").
use Rattle.std.specs.Prelude.{◌≡◌, ◌⊎◌, ◌<◌, ℕ, Bool, true, false, IsTrue, List, [], ◌∷◌, length}
use Rattle.std.specs.Prelude.{slice_get}
use Rattle.std.specs.Option.{IsSomeAnd}
use Rattle.am_machine.specs.{Answer, Event}
use Rattle.am_machine.specs.declared.answer.Answer.TheVariants as answers
use Rattle.am_explore.specs.declared.question.Question.{Question}
use Rattle.am_explore.specs.declared.question.Question.TheVariants as questions
use Rattle.am_explore.specs.declared.question.Sought.{Sought}
use Rattle.am_explore.specs.declared.question.Sought.TheVariants as sought_as
use Rattle.am_explore.specs.declared.scene.Scene.{Scene}
use Rattle.am_explore.specs.declared.standing.Heard.{Heard}
use Rattle.am_explore.specs.Answers.{is_refused, is_wait}
use Rattle.am_explore.specs.Standings.{Standing}
use Rattle.am_explore.specs.Orders.{Stand}
use Rattle.am_explore.specs.WorldLines.{TextHas}

-- a walk has arrived
abbrev pub is_at : Answer → Bool
is_at (answers.At position) = true
is_at _ = false

-- a walk has failed
abbrev pub is_failed : Answer → Bool
is_failed (answers.Failed errno) = true
is_failed _ = false

-- the answer is one of those that are sought
abbrev pub Fits : Sought → Answer → Type 0
Fits sought_as.Any answer = Unit {0}
Fits (sought_as.Exactly same) answer = same ≡ answer
Fits sought_as.AnyWait answer = IsTrue (is_wait answer)
Fits sought_as.AnyAt answer = IsTrue (is_at answer)
Fits sought_as.AnyRefused answer = IsTrue (is_refused answer)
Fits sought_as.AnyFailed answer = IsTrue (is_failed answer)

-- one of the answers to this event is sought
abbrev pub HasAnswer : ℕ → Sought → List Heard → Type 0
HasAnswer event sought [] = ⊥
HasAnswer event sought (h ∷ heard) = ((h.event ≡ event) × Fits sought h.answer) ⊎ HasAnswer event sought heard

-- a thread of these events has some left
abbrev pub HasLeft : List Event → Standing → Type 0
HasLeft events s = s.next < length events

-- the question is met here, at an end
abbrev pub Meets : Scene → Question → Stand → Type 0
Meets scene (questions.Answered thread event sought) a =
    IsSomeAnd (slice_get a.threads thread) (λ (s : Standing). HasAnswer event sought s.heard)
Meets scene (questions.Waiting thread) a =
    IsSomeAnd (slice_get a.threads thread)
    (λ (s : Standing). IsSomeAnd (slice_get scene.threads.items thread) (λ (events : List Event). HasLeft events s))
Meets scene (questions.Shows line) a = TextHas line.items a.state true
Meets scene (questions.Lacks line) a = TextHas line.items a.state false
