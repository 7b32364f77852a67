-- A run that wants no memory: own choice (docs/FORMATS.md, "Scenes").
use Rattle.std.specs.Prelude.{⊤, ◌≡◌, false, List, [], ◌∷◌}
use Rattle.am_machine.specs.{Answer, Event, Run}
use Rattle.am_machine.specs.State.{State}
use Rattle.am_explore.specs.Answers.{is_no_memory}

-- for none of these answers memory ran out
abbrev pub HadMemory : List Answer → Type 0
HadMemory [] = ⊤
HadMemory (answer ∷ answers) = (is_no_memory answer ≡ false) × HadMemory answers

-- the events lead from one state to the other: none was passed over for want of memory
pub record IsLed (start : State) (events : List Event) (end : State) : Type 0 where
  pub answers : List Answer
  pub runs : Run start events answers end
  pub had : HadMemory answers
