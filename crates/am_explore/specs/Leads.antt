-- Where the first choices of an order lead, which are named by their numbers: own choice (docs/DECISIONS.md, "All
-- orders
-- of a scene").
use Rattle.std.specs.Prelude.{◌≡◌, ℕ, zero, suc, List, [], ◌∷◌, ◌++◌, Option, Some, None, take, slice_get}
use Rattle.am_machine.specs.{Answer}
use Rattle.am_explore.specs.declared.choice.Choice.{Choice}
use Rattle.am_explore.specs.declared.led.Along.{Along}
use Rattle.am_explore.specs.declared.led.Along.TheVariants as alongs
use Rattle.am_explore.specs.declared.led.Led.{Led}
use Rattle.am_explore.specs.declared.led.Led.TheVariants as leds
use Rattle.am_explore.specs.declared.led.Way.{Way}
use Rattle.am_explore.specs.declared.led.Went.{Went}
use Rattle.am_explore.specs.declared.led.Went.TheVariants as wents
use Rattle.am_explore.specs.declared.scene.Scene.{Scene}
use Rattle.am_explore.specs.Levels.{IsNoStep}
use Rattle.am_explore.specs.Orders.{IsMade, Stand, choices_at, stand_of}

-- the choice of this number, from 1
abbrev pub numbered : ℕ → List Choice → Option Choice
numbered zero choices = None
numbered (suc n) choices = slice_get choices n

-- the choice of this number is made
pub record IsTaken (scene : Scene) (a : Stand) (number : ℕ) (choice : Choice) (answer : Answer) (b : Stand) : Type
    0 where
  pub chosen : numbered number (choices_at scene a) ≡ Some choice
  pub made : IsMade scene a choice answer b

-- the choices of these numbers lead from one stand to another, one after another
abbrev pub AreTaken : Scene → Stand → List ℕ → List Choice → List Answer → Stand → Type 0
AreTaken scene a [] [] [] b = b ≡ a
AreTaken scene a (number ∷ numbers) (choice ∷ choices) (answer ∷ answers) b =
    (mid : Stand) × IsTaken scene a number choice answer mid × AreTaken scene mid numbers choices answers b
AreTaken scene a _ _ _ b = ⊥

-- no order begins with the choices of these numbers
abbrev pub NoneTaken : Scene → Stand → List ℕ → Type 0
NoneTaken scene a numbers = (choices : List Choice) (answers : List Answer) (b : Stand)
    → AreTaken scene a numbers choices answers b → ⊥

-- the first so many of these numbers lead to where there is no choice of the next one
pub record IsMissing (scene : Scene) (a : Stand) (numbers : List ℕ) (at : ℕ) : Type 0 where
  pub number : ℕ
  pub numbered_so : slice_get numbers at ≡ Some number
  pub choices : List Choice
  pub answers : List Answer
  pub mid : Stand
  pub taken : AreTaken scene a (take at numbers) choices answers mid
  pub missing : numbered number (choices_at scene mid) ≡ None

-- where these numbers lead
abbrev pub IsLed : Scene → Stand → List ℕ → Led → Type 0
IsLed scene a numbers (leds.Here begun choices answers) = AreTaken scene a numbers choices.items answers.items
    (stand_of begun)
IsLed scene a numbers leds.NoStep = NoneTaken scene a numbers
IsLed scene a numbers (leds.NoChoice at) = IsMissing scene a numbers at

-- what came of one number more
abbrev pub IsWent : Scene → ℕ → Way → Way → Went → Type 0
IsWent scene number old new wents.On =
    (choice : Choice) × (answer : Answer) × IsTaken scene (stand_of old.begun) number choice answer (stand_of new.begun)
    × (new.choices.items ≡ old.choices.items ++ choice ∷ []) × (new.answers.items ≡ old.answers.items ++ answer ∷ [])
IsWent scene number old new wents.NoStep =
    (choice : Choice) × (numbered number (choices_at scene (stand_of old.begun)) ≡ Some choice)
    × IsNoStep scene (stand_of old.begun) choice
IsWent scene number old new wents.NoChoice = numbered number (choices_at scene (stand_of old.begun)) ≡ None

-- what came of all numbers
abbrev pub IsAlong : Scene → Stand → List ℕ → Way → Along → Type 0
IsAlong scene a numbers way alongs.Whole = AreTaken scene a numbers way.choices.items way.answers.items
    (stand_of way.begun)
IsAlong scene a numbers way alongs.NoStep = NoneTaken scene a numbers
IsAlong scene a numbers way (alongs.NoChoice at) = IsMissing scene a numbers at
