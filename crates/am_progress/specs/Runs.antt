-- Nothing is said here of what will happen, but of what can: each law is one of every world to
-- which a run leads, and says of some events that they are done there, if they come. An event may
-- also find no memory (the other case of a step): then nothing has changed, and the same is said of
-- it again (own choice).
use Rattle.std.specs.Prelude.{◌≡◌, Bool, true, false, List}
use Rattle.am_machine.specs.{Event, Answer, Setup, initial_state_of, HavePaths, Run, after, outcome_of}
use Rattle.am_machine.specs.declared.answer.Answer.TheVariants as answers
use Rattle.am_machine.specs.State.{State}

-- it holds in each world to which a run from an initial one leads
abbrev pub AfterEachRun : (State → Type 0) → Type 0
AfterEachRun holds =
    (opening : Setup) (events : List Event) (answers : List Answer) (s : State) →
    HavePaths events → Run (initial_state_of opening) events answers s → holds s

-- the answer is an error
abbrev pub is_refused : Answer → Bool
is_refused (answers.Refused e) = true
is_refused _ = false

-- the event isn't refused in this world
abbrev pub IsDone : State → Event → Type 0
IsDone s event = is_refused (outcome_of s event).answer ≡ false

-- the world after the event
abbrev pub next : State → Event → State
next s event = after s (outcome_of s event)
