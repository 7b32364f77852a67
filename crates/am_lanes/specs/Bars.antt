-- Lanes: who holds which, and what bar stands in it. Own choice (docs/DECISIONS.md, "A picture is as
-- wide as it has to be").
use Rattle.std.specs.Prelude.{◌≡◌, ◌≤◌, ◌<◌, ℕ, ◌-◌, Bool, true, false, ◌||◌, ◌==◌, List, [], ◌∷◌, ◌++◌, length, set, get_or, Option, None, Some, if◌then◌else◌}
use Rattle.std.specs.List.{position, list_any}
use Rattle.am_lanes.specs.declared.holder.Look.{Look}
use Rattle.am_lanes.specs.declared.holder.Look.TheVariants.{Missing, Expire, Ended, Idle}
use Rattle.am_lanes.specs.declared.holder.Holder.{Holder}
use Rattle.am_lanes.specs.declared.holder.Ending.{Ending}
use Rattle.am_lanes.specs.declared.holder.Ending.TheVariants.{Of, In, All}

-- ---- one lane

-- the lane is that of this token or walker
abbrev pub is_of : ℕ → Option Holder → Bool
is_of number None = false
is_of number (Some holder) = holder.number == number

-- there is no bar: the token isn't open any more, or the walker neither waits nor is inside of a mount
abbrev pub has_ended : Look → Bool
has_ended Ended = true
has_ended Idle = true
has_ended look = false

-- another may take the lane: nobody has it, or one without a bar
abbrev pub is_free : Option Holder → Bool
is_free None = true
is_free (Some holder) = has_ended holder.look

-- this one may take the lane: it is its own, or free
abbrev pub may_take : ℕ → Option Holder → Bool
may_take number lane = is_of number lane || is_free lane

-- ---- which lane

-- this lane, or the last one
abbrev pub or_last : List (Option Holder) → Option ℕ → ℕ
or_last lanes None = length lanes - 1
or_last lanes (Some lane) = lane

-- the lane that a token or a walker is drawn in: its own, or the last one
abbrev pub lane_of : ℕ → List (Option Holder) → ℕ
lane_of number lanes = or_last lanes (position (λ lane. is_of number lane) lanes)

-- the first lane that is free, or the last one
abbrev pub free_lane : List (Option Holder) → ℕ
free_lane lanes = or_last lanes (position (λ lane. is_free lane) lanes)

-- its own lane, or the one that is to be taken
abbrev pub own_or_free : List (Option Holder) → Option ℕ → ℕ
own_or_free lanes None = free_lane lanes
own_or_free lanes (Some lane) = lane

-- the lane that a token or a walker takes
abbrev pub lane_for : ℕ → List (Option Holder) → ℕ
lane_for number lanes = own_or_free lanes (position (λ lane. is_of number lane) lanes)

-- it stands in its lane from here on, and looks so
abbrev pub placed : Holder → List (Option Holder) → List (Option Holder)
placed holder lanes = set lanes (lane_for holder.number lanes) (Some holder)

-- one that has no lane takes one
abbrev pub sighted : Holder → List (Option Holder) → List (Option Holder)
sighted holder lanes =
    if list_any (λ lane. is_of holder.number lane) lanes then lanes else placed holder lanes

-- where it may take no lane, there is one more
abbrev pub with_lane : ℕ → List (Option Holder) → List (Option Holder)
with_lane number lanes =
    if list_any (λ lane. may_take number lane) lanes then lanes else lanes ++ None ∷ []

-- ---- bars

-- it looks like an open token of this file system
abbrev pub is_in : ℕ → Look → Bool
is_in fs (Missing own) = own == fs
is_in fs (Expire own) = own == fs
is_in fs look = false

-- the bar of this holder ends
abbrev pub ends : Ending → Holder → Bool
ends (Of number) holder = holder.number == number
ends (In fs) holder = is_in fs holder.look
ends All holder = true

-- the bar in this lane ends
abbrev pub ends_lane : Ending → Option Holder → Bool
ends_lane ending None = false
ends_lane ending (Some holder) = ends ending holder

-- the holder, whose bar has ended
abbrev pub ended : Holder → Holder
ended holder = record holder { look = Ended }

-- the lane once the bars end that end so: it stays its own until another takes it
abbrev pub ended_lane : Ending → Option Holder → Option Holder
ended_lane ending None = None
ended_lane ending (Some holder) = if ends ending holder then Some (ended holder) else Some holder

-- who holds the lane
abbrev pub at : List (Option Holder) → ℕ → Option Holder
at lanes lane = get_or lanes lane None

-- in none of the lanes from one to another, which isn't meant, a bar ends
abbrev pub NoneEnds : Ending → ℕ → ℕ → List (Option Holder) → Type 0
NoneEnds ending from to lanes =
    (lane : ℕ) → from ≤ lane → lane < to → ends_lane ending (at lanes lane) ≡ false

-- a bar that ends stands in this lane, and in none between it and the first
pub record IsFirstEnding (ending : Ending) (from : ℕ) (lanes : List (Option Holder)) (lane : ℕ) : Type 0 where
  pub beyond : from ≤ lane
  pub there : lane < length lanes
  pub done : ends_lane ending (at lanes lane) ≡ true
  pub first : NoneEnds ending from lane lanes

-- the next lane from this one on whose bar ends
abbrev pub IsNextEnding : Ending → ℕ → List (Option Holder) → Option ℕ → Type 0
IsNextEnding ending from lanes None = NoneEnds ending from (length lanes) lanes
IsNextEnding ending from lanes (Some lane) = IsFirstEnding ending from lanes lane
