-- What the whole text of a script says: the opening of its world, its events with their lines,
-- and its first fault. Own choice (docs/FORMATS.md, "Scripts").
use Rattle.std.specs.Prelude.{⊤, ◌≤◌, ℕ, ◌+◌, List, [], ◌∷◌, map, length, drop, Option, None, Some, Result, Ok, Err, if◌then◌else◌}
use Rattle.am_machine.specs.{Event, Setup}
use Rattle.am_script.specs.declared.fault.ScriptFault.{ScriptFault}
use Rattle.am_script.specs.declared.fault.ScriptFaultKind.{ScriptFaultKind}
use Rattle.am_script.specs.declared.fault.ScriptFaultKind.TheVariants.{BadSection, BadEvent, LongLine}
use Rattle.am_lines.specs.{words_of}
use Rattle.am_script.specs.Lines.{lines_of, is_long, are_skipped}
use Rattle.am_script.specs.Events.{event_read}
use Rattle.am_script.specs.Fault.{fault_at}
use Rattle.am_script.specs.Head.{Headed, Begins, Ends, Faulty, head_of}
use Rattle.am_script.specs.Maps.{opening_read}
use Rattle.am_script.specs.Sections.{parts_of_lines}
use Rattle.am_script.specs.Read.{played, broken}

-- an event and the number of its line
pub record Numbered : Type 0 where
  pub line : ℕ
  pub event : Event

-- the events without their lines
abbrev pub events_in : List Numbered → List Event
events_in rows = map (λ row. row.event) rows

-- events, and the fault behind them
pub record Told : Type 0 where
  pub events : List Numbered
  pub fault : Option ScriptFault

-- the number of the line `events` is there if the head is whole, and the opening if its maps are too
pub record Script : Type 0 where
  pub opening : Option Setup
  pub events_at : Option ℕ
  pub told : Told

-- no event, and this fault
abbrev pub only_fault : Option ScriptFault → Told
only_fault fault = record { events = []; fault = fault }

-- ---- the events

-- the event, or the fault of a line that spells none
abbrev pub event_or_fault : Option Event → Result (Option Event) ScriptFaultKind
event_or_fault (Some event) = Ok (Some event)
event_or_fault None = Err BadEvent

-- the event of a line; a blank line and a comment have none
abbrev pub line_read : List ℕ → Result (Option Event) ScriptFaultKind
line_read line =
    if is_long line then Err LongLine
    else if are_skipped (words_of line) then Ok None
    else event_or_fault (event_read (words_of line))

-- a fault of the reading comes at the line after those that were read whole
abbrev pub read_fault : ℕ → Option ScriptFaultKind → Option ScriptFault
read_fault number None = None
read_fault number (Some kind) = Some (fault_at number kind)

-- a line before others; nothing behind a fault is told
abbrev pub told_by : Result (Option Event) ScriptFaultKind → ℕ → Told → Told
told_by (Ok None) number told = told
told_by (Ok (Some event)) number told =
    record told { events = (record { line = number; event = event }) ∷ told.events }
told_by (Err kind) number told = only_fault (Some (fault_at number kind))

-- these lines of events, behind so many lines
abbrev pub events_from : Option ScriptFaultKind → ℕ → List (List ℕ) → Told
events_from broke before [] = only_fault (read_fault before broke)
events_from broke before (line ∷ lines) =
    told_by (line_read line) (before + 1) (events_from broke (before + 1) lines)

-- ---- the head

-- no world begins, for this fault or for none
abbrev pub without_world : Option ScriptFault → Script
without_world fault = record { opening = None; events_at = None; told = only_fault fault }

-- a section that doesn't end is told at its first line
abbrev pub section_fault : Option ℕ → Option ScriptFault
section_fault None = None
section_fault (Some first) = Some (fault_at first BadSection)

-- the text ends within the head
abbrev pub head_ends : Option ScriptFaultKind → Option ℕ → ℕ → Script
head_ends None section before = without_world (section_fault section)
head_ends (Some kind) section before = without_world (Some (fault_at before kind))

-- the events begin behind the line with this number, if each line of the master has its map
abbrev pub begun_by : Result Setup ScriptFault → ℕ → Told → Script
begun_by (Ok opening) number told = record { opening = Some opening; events_at = Some number; told = told }
begun_by (Err fault) number told = record { opening = None; events_at = Some number; told = only_fault (Some fault) }

-- the script of these lines, whose head goes so
abbrev pub script_by : Option ScriptFaultKind → List (List ℕ) → Headed → Script
script_by broke lines (Begins head number) =
    begun_by (opening_read head) number (events_from broke number (drop number lines))
script_by broke lines (Ends section) = head_ends broke section (length lines)
script_by broke lines (Faulty fault) = without_world (Some fault)

-- the script of these lines, behind which reading broke off or not
abbrev pub script_from : Option ScriptFaultKind → List (List ℕ) → Script
script_from broke lines = script_by broke lines (head_of (parts_of_lines lines))

-- what was read of a script, up to its end or to where reading broke off
abbrev pub script_of : Option ScriptFaultKind → List ℕ → Script
script_of broke text = script_from (broken broke text) (lines_of (played broke text))

-- the line isn't behind that of `events`, if there is one
abbrev pub IsInHead : Option ℕ → ℕ → Type 0
IsInHead None line = ⊤
IsInHead (Some number) line = line ≤ number
