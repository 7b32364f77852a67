-- The safety theorem, said of the machine alone (own choice).
use Rattle.std.specs.Prelude.{List}
use Rattle.am_laws.specs.{Lawful}
use Rattle.am_machine.specs.declared.event.Event.{Event}
use Rattle.am_machine.specs.declared.answer.Answer.{Answer}
use Rattle.am_machine.specs.State.{Setup, State, initial_state_of}
use Rattle.am_machine.specs.Told.{IsTold}
use Rattle.am_machine.specs.Machine.{Run}

-- every run from an initial world leaves a lawful trace
abbrev pub RunsAreLawful : Type 0
RunsAreLawful = (opening : Setup) (events : List Event) (answers : List Answer) (s : State) →
    Run (initial_state_of opening) events answers s → Lawful s.trace

-- every run from an initial world leaves a world as its trace tells it
abbrev pub RunsFitTheirTraces : Type 0
RunsFitTheirTraces = (opening : Setup) (events : List Event) (answers : List Answer) (s : State) →
    Run (initial_state_of opening) events answers s → IsTold s
