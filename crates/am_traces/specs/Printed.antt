-- Which printed traces are read back: own choice (docs/FORMATS.md, "Traces").
use Rattle.std.specs.Prelude.{◌<◌, ◌^◌, List, [], ◌∷◌, length}
use Rattle.std.specs.List.{flat_map}
use Rattle.am_state.specs.{Obs}
use Rattle.am_script.specs.{EndsNoLine, Shown, answer_text}
use Rattle.am_views.specs.{event_text, obs_text}
use Rattle.am_traces.specs.Says.{IsObs}

-- each is an observation, and no name in it has a line feed
abbrev pub AreOnLines : List Obs → Type 0
AreOnLines [] = Unit {0}
AreOnLines (obs ∷ seen) = (IsObs obs × EndsNoLine (obs_text obs)) × AreOnLines seen

-- no name in what is printed of an event has a line feed, and the numbers are those of a computer
pub record IsOnLines (row : Shown) : Type 0 where
  pub number : row.asked.line < 2 ^ 64
  pub asked : EndsNoLine (event_text row.asked.event)
  pub told : EndsNoLine (answer_text row.answer)
  pub count : length row.seen < 2 ^ 64
  pub seen : AreOnLines row.seen

-- so it is with each event
abbrev pub AllOnLines : List Shown → Type 0
AllOnLines [] = Unit {0}
AllOnLines (row ∷ rows) = IsOnLines row × AllOnLines rows

-- what is seen of these events, in order
abbrev pub seen_in : List Shown → List Obs
seen_in rows = flat_map (λ row. row.seen) rows
