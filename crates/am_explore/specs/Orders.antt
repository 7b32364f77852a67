-- The orders of a scene: own choice (docs/DECISIONS.md, "All orders of a scene").
use Rattle.std.specs.Prelude.{◌≡◌, ◌⊎◌, IsTrue, List, [], ◌∷◌, map}
use Rattle.am_state.specs.{Obs}
use Rattle.am_machine.specs.{Answer, Comes, Event, outcome_of}
use Rattle.am_machine.specs.State.{State}
use Rattle.am_world.specs.Capacity.{state_of}
use Rattle.am_explore.specs.declared.begun.Begun.{Begun}
use Rattle.am_explore.specs.declared.choice.Choice.{Choice}
use Rattle.am_explore.specs.declared.scene.Scene.{Scene}
use Rattle.am_explore.specs.Answers.{is_step}
use Rattle.am_explore.specs.Choices.{choices_of}
use Rattle.am_explore.specs.Standings.{Standing, first_standings, moved}

-- the machine's state, and where each thread of the scene stands
pub record Stand : Type 0 where
  pub state : State
  pub threads : List Standing

-- how a scene that has begun stands
abbrev pub stand_of : Begun → Stand
stand_of b = record { state = state_of b.world; threads = b.threads.items }

-- the scene begins in this state
abbrev pub begun_at : Scene → State → Stand
begun_at scene s = record { state = s; threads = first_standings scene.threads.items }

-- what may come next
abbrev pub choices_at : Scene → Stand → List Choice
choices_at scene a = choices_of scene a.state.kernel a.state.daemon a.threads

-- it is one of these
abbrev pub IsIn : Choice → List Choice → Type 0
IsIn choice [] = ⊥
IsIn choice (other ∷ others) = (choice ≡ other) ⊎ IsIn choice others

-- The event comes, with this answer, which isn't one that makes it no step. The thread whose event it
-- is goes on.
pub record IsMade (scene : Scene) (a : Stand) (choice : Choice) (answer : Answer) (b : Stand) : Type 0 where
  pub seen : List Obs
  pub comes : Comes (outcome_of a.state choice.event) a.state answer seen b.state
  pub counts : IsTrue (is_step choice.who answer)
  pub goes_on : b.threads ≡ moved 0 choice.who answer scene.threads.items a.threads

-- one of the choices is made
pub record IsStep (scene : Scene) (a : Stand) (choice : Choice) (answer : Answer) (b : Stand) : Type 0 where
  pub chosen : IsIn choice (choices_at scene a)
  pub made : IsMade scene a choice answer b

-- an order leads from one stand to another: one step after another
abbrev pub IsOrder : Scene → Stand → List Choice → List Answer → Stand → Type 0
IsOrder scene a [] [] b = b ≡ a
IsOrder scene a (choice ∷ choices) (answer ∷ answers) b =
    (mid : Stand) × IsStep scene a choice answer mid × IsOrder scene mid choices answers b
IsOrder scene a [] (answer ∷ answers) b = ⊥
IsOrder scene a (choice ∷ choices) [] b = ⊥

-- there is no step from here
abbrev pub IsEnd : Scene → Stand → Type 0
IsEnd scene a = (choice : Choice) (answer : Answer) (b : Stand) → IsStep scene a choice answer b → ⊥

-- the events of an order
abbrev pub events_in : List Choice → List Event
events_in choices = map (λ (choice : Choice). choice.event) choices
