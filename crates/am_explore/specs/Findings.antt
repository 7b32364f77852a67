-- What a search finds: own choice (docs/DECISIONS.md, "All orders of a scene").
use Rattle.std.specs.Prelude.{◌≡◌, ◌≤◌, ℕ, List, length}
use Rattle.am_machine.specs.{Answer, Run}
use Rattle.am_explore.specs.declared.choice.Choice.{Choice}
use Rattle.am_explore.specs.declared.question.Question.{Question}
use Rattle.am_explore.specs.declared.scene.Scene.{Scene}
use Rattle.am_explore.specs.declared.search.Found.{Found}
use Rattle.am_explore.specs.declared.search.Found.TheVariants as founds
use Rattle.am_explore.specs.declared.search.Tally.{Tally}
use Rattle.am_explore.specs.Orders.{IsEnd, IsOrder, Stand, events_in}
use Rattle.am_explore.specs.Questions.{Meets}

-- an order of so many steps leads from here to an end that meets the question
pub record MeetsIn (scene : Scene) (question : Question) (a : Stand) (steps : ℕ) : Type 0 where
  pub choices : List Choice
  pub answers : List Answer
  pub end : Stand
  pub leads : IsOrder scene a choices answers end
  pub ends : IsEnd scene end
  pub meets : Meets scene question end
  pub long : length choices ≡ steps

-- This order leads to an end that meets the question, and none that does is shorter. It is a run of the
-- machine.
pub record MeetsFirst (scene : Scene) (question : Question) (start : Stand) (choices : List Choice)
    (answers : List Answer) : Type 0 where
  pub end : Stand
  pub leads : IsOrder scene start choices answers end
  pub ends : IsEnd scene end
  pub meets : Meets scene question end
  pub first : (steps : ℕ) → MeetsIn scene question start steps → length choices ≤ steps
  pub runs : Run start.state (events_in choices) answers end.state

-- no order to an end meets the question, however long it is
abbrev pub NoneMeets : Scene → Question → Stand → Type 0
NoneMeets scene question start = (steps : ℕ) → MeetsIn scene question start steps → ⊥

-- each order to an end that meets the question has as many steps as these, or more
abbrev pub NoneBelow : Scene → Question → Stand → ℕ → Type 0
NoneBelow scene question start below = (steps : ℕ) → MeetsIn scene question start steps → below ≤ steps

-- a search that was cut has seen all orders with fewer steps than it says
abbrev pub IsFound : Scene → Question → Stand → Found → Type 0
IsFound scene question start (founds.Order choices answers) = MeetsFirst scene question start choices.items
    answers.items
IsFound scene question start founds.Never = NoneMeets scene question start
IsFound scene question start (founds.Cut below) = NoneBelow scene question start below

-- it was cut where there were more states than these
abbrev pub IsFull : ℕ → Found → Tally → Type 0
IsFull most (founds.Cut below) tally = most ≤ tally.states
IsFull most _ tally = Unit {0}

-- no more than so many states are looked at, and a search that was cut has met as many
pub record IsTallied (most : ℕ) (found : Found) (tally : Tally) : Type 0 where
  pub bound : tally.states ≤ most
  pub full : IsFull most found tally
