-- A script that is played line by line, while more of it may follow. For the code
-- alone: own choice.
use Rattle.std.specs.Prelude.{◌≡◌, ◌⊎◌, ℕ, ◌+◌, true, List, [], ◌∷◌, ◌++◌, length, count_by, Option, None, Some, Ok}
use Rattle.std.specs.List.{flat_map}
use Rattle.am_machine.specs.{Setup, setup_of, initial_state_of}
use Rattle.am_machine.specs.State.{State}
use Rattle.am_script.specs.declared.fault.ScriptFault.{ScriptFault}
use Rattle.am_script.specs.declared.fault.ScriptFaultKind.{ScriptFaultKind}
use Rattle.am_script.specs.declared.output.Output.{Output}
use Rattle.am_script.specs.declared.play.Summary.{Summary}
use Rattle.am_script.specs.declared.player.Place.{Place}
use Rattle.am_script.specs.declared.player.Place.TheVariants as places
use Rattle.am_script.specs.declared.player.Player.{Player}
use Rattle.am_script.specs.Answers.{is_refused}
use Rattle.am_script.specs.Fault.{IsFaultOr}
use Rattle.am_script.specs.HeadLeft.{IsLeft}
use Rattle.am_script.specs.Heading.{HeadSoFar, GoesOn, EventsBegin, StopsAt, after_line}
use Rattle.am_script.specs.Lines.{is_long}
use Rattle.am_script.specs.Maps.{opening_read}
use Rattle.am_script.specs.Outputs.{Owed, owed_by, Stands}
use Rattle.am_script.specs.Played.{HaltsIn, IsPlayed}
use Rattle.am_script.specs.Script.{Numbered, Told, Script, events_from, script_from}
use Rattle.am_script.specs.Forms.{Shown, Form, SeenRun, asked_in, answers_in}
use Rattle.am_world.specs.Capacity.{state_of}
use Rattle.am_world.specs.{WorldTable}

-- ---- what may follow

-- how a script goes on behind its first lines: with these lines, and a fault of the reading behind
-- them
pub record Ending : Type 0 where
  pub broke : Option ScriptFaultKind
  pub lines : List (List ℕ)

-- one more line before that
abbrev pub with_next : List ℕ → Ending → Ending
with_next line ending = record ending { lines = line ∷ ending.lines }

-- the script that begins with these lines
abbrev pub script_behind : List (List ℕ) → Ending → Script
script_behind front ending = script_from ending.broke (front ++ ending.lines)

-- ---- events that have come

-- the bytes of what is written of these events
abbrev pub owed_for : Form → List Shown → List Owed
owed_for form rows = flat_map (λ row. owed_by row.asked.line (form.text row)) rows

-- these events come first
abbrev pub behind : List Numbered → Told → Told
behind done told = record told { events = done ++ told.events }

-- ---- how far a script has come

-- these lines of a head were taken, and have said this; nothing is written
pub record HeadStands (heading : HeadSoFar) (number : ℕ) (summary : Summary) (output : Output) (front : List (List ℕ)) (start now : Option (List ℕ)) : Type 0 where
  pub counted : length front ≡ number
  pub left : (rest : List (List ℕ)) → IsLeft (front ++ rest) heading number rest
  pub empty : Stands output [] start now
  pub lines : summary.lines ≡ 0
  pub refused : summary.refused ≡ 0

-- these lines were taken, and the events among them have come; what is written of them is put out
pub record EventsStand (form : Form) (state : State) (number : ℕ) (summary : Summary) (output : Output)
    (front : List (List ℕ)) (start now : Option (List ℕ)) : Type 0 where
  pub counted : length front ≡ number
  pub opening : Setup
  pub events_at : ℕ
  pub rows : List Shown
  pub goes : (ending : Ending) → script_behind front ending ≡ record {
    opening = Some opening;
    events_at = Some events_at;
    told = behind (asked_in rows) (events_from ending.broke number ending.lines);
  }
  pub run : SeenRun (initial_state_of opening) rows state
  pub stands : Stands output (owed_for form rows) start now
  pub lines : summary.lines ≡ length rows
  pub refused : summary.refused ≡ count_by is_refused (answers_in rows)

-- the lines were taken as those of a head, or its events have come
abbrev pub PlaceStands :
    Form → Place → ℕ → Summary → Output → List (List ℕ) → Option (List ℕ) → Option (List ℕ) → Type 0
PlaceStands form (places.Head heading) number summary output front start now =
    HeadStands heading number summary output front start now
PlaceStands form (places.Events world) number summary output front start now =
    EventsStand form (state_of world) number summary output front start now

-- these lines of a script were played, since the writer held what it did at the start
abbrev pub PlayerStands : Form → Player → List (List ℕ) → Option (List ℕ) → Option (List ℕ) → Type 0
PlayerStands form player front start now =
    PlaceStands form player.place player.number player.summary player.output front start now

-- ---- one line more

-- what a line makes of a head: it goes on, or the world begins that the head opens
abbrev pub HeadTaken : HeadSoFar → ℕ → List ℕ → HeadSoFar → Option WorldTable → Type 0
HeadTaken old number line new None = after_line old number line ≡ GoesOn new
HeadTaken old number line new (Some world) =
    (whole : HeadSoFar) × (after_line old number line ≡ EventsBegin whole)
    × (opening_read whole.said ≡ Ok (setup_of (state_of world))) × (state_of world ≡ initial_state_of (setup_of (state_of world)))

-- where a player is then
abbrev pub place_after : HeadSoFar → Option WorldTable → Place
place_after heading None = places.Head heading
place_after heading (Some world) = places.Events world

-- the line stops the head, or the world of the head that it ends can't begin
abbrev pub HeadStops : HeadSoFar → ℕ → List ℕ → ScriptFault → Type 0
HeadStops old number line fault =
    StopsAt number (after_line old number line) fault
    ⊎ ((whole : HeadSoFar) × (after_line old number line ≡ EventsBegin whole) × IsFaultOr number fault (opening_read whole.said))

-- a line of a head is taken, and the player is there then; behind a head nothing is done
abbrev pub TakesInHead : Place → ℕ → List ℕ → Place → Type 0
TakesInHead (places.Head heading) number line new =
    (next : HeadSoFar) × (world : Option WorldTable) × HeadTaken heading number line next world
    × (new ≡ place_after next world)
TakesInHead (places.Events world) number line new = new ≡ places.Events world

-- the line stops the head
abbrev pub StopsInHead : Place → ℕ → List ℕ → ScriptFault → Type 0
StopsInHead (places.Head heading) number line fault = HeadStops heading number line fault
StopsInHead (places.Events world) number line fault = ⊥

-- the line is played, whatever came before
abbrev pub TakesLine : Form → Player → Player → List ℕ → Option (List ℕ) → Option (List ℕ) → Type 0
TakesLine form old new line held holds =
    (front : List (List ℕ)) → (start : Option (List ℕ)) → PlayerStands form old front start held
    → PlayerStands form new (front ++ line ∷ []) start holds

-- the script stops at the line, whatever came before and whatever follows
abbrev pub StopsAtLine : Form → Player → List ℕ → Option (List ℕ) → Option (List ℕ) → ScriptFault → Type 0
StopsAtLine form player line held holds fault =
    (front : List (List ℕ)) → (start : Option (List ℕ)) → PlayerStands form player front start held
    → (ending : Ending)
    → HaltsIn form (script_behind front (with_next line ending)) (length front + 1) start holds fault

-- the script stops at any line that is too long
abbrev pub StopsAtLong : Player → Option (List ℕ) → Option (List ℕ) → ScriptFault → Type 0
StopsAtLong player held holds fault =
    (form : Form) → (line : List ℕ) → is_long line ≡ true → StopsAtLine form player line held holds fault

-- ---- what is kept is written, in any form

-- no line is played, but what is kept is written
abbrev pub Flushes : Player → Player → Option (List ℕ) → Option (List ℕ) → Type 0
Flushes old new held holds =
    (form : Form) → (front : List (List ℕ)) → (start : Option (List ℕ)) → PlayerStands form old front start held
    → PlayerStands form new front start holds

-- what is kept isn't written whole, so the script stops, whatever follows
abbrev pub LosesAnswer : Player → Option (List ℕ) → Option (List ℕ) → ScriptFault → Type 0
LosesAnswer player held holds fault =
    (form : Form) → (front : List (List ℕ)) → (start : Option (List ℕ)) → PlayerStands form player front start held
    → (ending : Ending) → (last : ℕ) → HaltsIn form (script_behind front ending) last start holds fault

-- ---- no line follows

-- the script of the lines that were taken is played to its end
abbrev pub EndsPlayed : Player → Option ScriptFaultKind → Option (List ℕ) → Option (List ℕ) → Summary → Type 0
EndsPlayed player broke held holds summary =
    (form : Form) → (front : List (List ℕ)) → (start : Option (List ℕ)) → PlayerStands form player front start held
    → IsPlayed form (script_from broke front) start holds summary

-- it isn't
abbrev pub EndsStopped : Player → Option ScriptFaultKind → Option (List ℕ) → Option (List ℕ) → ScriptFault → Type 0
EndsStopped player broke held holds fault =
    (form : Form) → (front : List (List ℕ)) → (start : Option (List ℕ)) → PlayerStands form player front start held
    → HaltsIn form (script_from broke front) (length front) start holds fault
