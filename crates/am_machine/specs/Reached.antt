-- How a world came about (own choice).
use Rattle.std.specs.Prelude.{List}
use Rattle.am_machine.specs.declared.event.Event.{Event}
use Rattle.am_machine.specs.declared.answer.Answer.{Answer}
use Rattle.am_machine.specs.State.{State, setup_of, initial_state_of}
use Rattle.am_machine.specs.Paths.{HavePaths}
use Rattle.am_machine.specs.Machine.{Run}

-- It came by a run along paths from the initial world of what it began with. So each law of such runs
-- is one of this world.
pub record IsReached (s : State) : Type 0 where
  pub events : List Event
  pub answers : List Answer
  pub paths : HavePaths events
  pub run : Run (initial_state_of (setup_of s)) events answers s
