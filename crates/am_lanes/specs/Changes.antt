-- What changes in lanes, and what is true of them behind it. Own choice (docs/DECISIONS.md, "A picture
-- is as wide as it has to be").
use Rattle.std.specs.Prelude.{◌≡◌, ℕ, true, ◌==◌, ⊤, List, [], ◌∷◌, ◌++◌, length, map, replicate, Option, None, Some, if◌then◌else◌}
use Rattle.std.specs.List.{list_any}
use Rattle.am_lanes.specs.declared.holder.Look.{Look}
use Rattle.am_lanes.specs.declared.holder.Look.TheVariants.{Idle}
use Rattle.am_lanes.specs.declared.holder.Holder.{Holder}
use Rattle.am_lanes.specs.declared.holder.Ending.{Ending}
use Rattle.am_lanes.specs.Bars.{at, ended_lane, ends, has_ended, may_take, placed, sighted, with_lane}

-- this one stands in its lane from here on, and looks so; a walker with this number, of which the event
-- with this number tells, takes a lane if it has none; bars end
pub data Change : Type 0 where
  Places : Holder → Change
  Sights : ℕ → ℕ → Change
  Ends : Ending → Change

-- a walker at rest
abbrev pub resting : ℕ → ℕ → Holder
resting walker number = record { number = walker; look = Idle; since = number }

-- ---- lanes

-- the lanes behind it
abbrev pub behind_change : List (Option Holder) → Change → List (Option Holder)
behind_change lanes (Places holder) = placed holder lanes
behind_change lanes (Sights walker number) = sighted (resting walker number) lanes
behind_change lanes (Ends ending) = map (ended_lane ending) lanes

-- the lanes behind all of these, in order
abbrev pub behind_all : List (Option Holder) → List Change → List (Option Holder)
behind_all lanes [] = lanes
behind_all lanes (change ∷ changes) = behind_all (behind_change lanes change) changes

-- there is a lane for whoever takes one
abbrev pub with_room : List (Option Holder) → Change → List (Option Holder)
with_room lanes (Places holder) = with_lane holder.number lanes
with_room lanes (Sights walker number) = with_lane walker lanes
with_room lanes (Ends ending) = lanes

-- the lanes behind all of these, where one is added for whoever may take none
abbrev pub grown_by : List (Option Holder) → List Change → List (Option Holder)
grown_by lanes [] = lanes
grown_by lanes (change ∷ changes) = grown_by (behind_change (with_room lanes change) change) changes

-- as many lanes as these changes come to, which nobody holds
abbrev pub lanes_for : List Change → List (Option Holder)
lanes_for changes = replicate (length (grown_by [] changes)) None

-- ---- nobody loses a lane

-- one of the lanes is its own, or is free
abbrev pub MayTake : ℕ → List (Option Holder) → Type 0
MayTake number lanes = list_any (λ lane. may_take number lane) lanes ≡ true

-- whoever takes a lane takes its own, or a free one
abbrev pub TakesNoOthers : List (Option Holder) → Change → Type 0
TakesNoOthers lanes (Places holder) = MayTake holder.number lanes
TakesNoOthers lanes (Sights walker number) = MayTake walker lanes
TakesNoOthers lanes (Ends ending) = ⊤

-- so it is at each of these
abbrev pub TakeNoOthers : List (Option Holder) → List Change → Type 0
TakeNoOthers lanes [] = ⊤
TakeNoOthers lanes (change ∷ changes) =
    TakesNoOthers lanes change × TakeNoOthers (behind_change lanes change) changes

-- In as many lanes as changes come to nobody takes the lane of one who has a bar, at none of those that
-- come first of them.
abbrev pub NobodyLosesALane : Type 0
NobodyLosesALane = (changes later : List Change) → TakeNoOthers (lanes_for (changes ++ later)) changes

-- ---- bars are what the changes tell

-- how it looks, unless its bar has ended
abbrev pub shown : Look → Option Look
shown look = if has_ended look then None else Some look

-- the bar of this number in a lane
abbrev pub bar_in : ℕ → Option Holder → Option Look
bar_in number None = None
bar_in number (Some holder) = if holder.number == number then shown holder.look else None

-- a bar of this number stands in one of the lanes, and looks so
abbrev pub HasBar : ℕ → Look → List (Option Holder) → Type 0
HasBar number look lanes = (lane : ℕ) × (bar_in number (at lanes lane) ≡ Some look)

-- the bar of a number, unless it ends so
abbrev pub unless_ended : Ending → ℕ → Option Look → Option Look
unless_ended ending number None = None
unless_ended ending number (Some look) =
    if ends ending (record { number = number; look = look; since = 0 }) then None else Some look

-- the bar of a number behind a change
abbrev pub then_bar : ℕ → Option Look → Change → Option Look
then_bar number bar (Places holder) = if holder.number == number then shown holder.look else bar
then_bar number bar (Sights walker event) = bar
then_bar number bar (Ends ending) = unless_ended ending number bar

-- the bar of a number behind all of these
abbrev pub bar_behind : ℕ → Option Look → List Change → Option Look
bar_behind number bar [] = bar
bar_behind number bar (change ∷ changes) = bar_behind number (then_bar number bar change) changes

-- who has a bar in these lanes, and how it looks
pub record HaveBars (lanes : List (Option Holder)) (bar : ℕ → Option Look) : Type 0 where
  pub there : (number : ℕ) (look : Look) → bar number ≡ Some look → HasBar number look lanes
  pub no_other : (number : ℕ) (look : Look) → HasBar number look lanes → bar number ≡ Some look
  -- no number has two lanes
  pub once : (number i j : ℕ) (look other : Look) →
      bar_in number (at lanes i) ≡ Some look → bar_in number (at lanes j) ≡ Some other → i ≡ j

-- In as many lanes as changes come to, behind those that come first of them, each has the bar that they
-- tell, in one lane, and no other has one.
abbrev pub BarsAreTold : Type 0
BarsAreTold =
    (changes later : List Change) →
    HaveBars (behind_all (lanes_for (changes ++ later)) changes) (λ number. bar_behind number None changes)
