-- A script that others play: its world, and then its events one by one. Own choice.
use Rattle.std.specs.Prelude.{◌≡◌, ◌⊎◌, ◌≤◌, ◌<◌, ℕ, ◌+◌, ◌^◌, ◌∷◌, Option, None, Some, Ok, option_copied}
use Rattle.am_machine.specs.{setup_of, initial_state_of}
use Rattle.am_script.specs.declared.fault.ScriptFault.{ScriptFault}
use Rattle.am_script.specs.declared.fault.ScriptFaultKind.{ScriptFaultKind}
use Rattle.am_script.specs.declared.fault.ScriptFaultKind.TheVariants.{NoMemory}
use Rattle.am_script.specs.declared.visit.Opened.{Opened}
use Rattle.am_script.specs.declared.visit.Found.{Found}
use Rattle.am_script.specs.Lines.{lines_in, size_in}
use Rattle.am_script.specs.Script.{Numbered, Told, Script, IsInHead, events_from, told_by, only_fault, without_world}
use Rattle.am_world.specs.Capacity.{state_of}

-- ---- the head

-- the world of the script, and the events that it tells, up to where reading broke off
pub record IsOpened (broke : Option ScriptFaultKind) (script : Script) (opened : Opened) : Type 0 where
  pub opening : script.opening ≡ Some (setup_of (state_of opened.world))
  pub line : script.events_at ≡ Some opened.line
  pub world : state_of opened.world ≡ initial_state_of (setup_of (state_of opened.world))
  pub told : script.told ≡ events_from opened.broke opened.line (lines_in (option_copied opened.rest))
  pub cut : opened.broke ≡ broke
  pub fits : opened.line + size_in (option_copied opened.rest) ≤ 2 ^ 63

-- the script is opened; or it ends within its head, and nothing is wrong
abbrev pub OpenedAs : Option ScriptFaultKind → Script → Option Opened → Type 0
OpenedAs broke script None = (script ≡ without_world None) × (broke ≡ None)
OpenedAs broke script (Some opened) = IsOpened broke script opened

-- memory ran out for the head or for the world, which is told at one of so many lines, and not
-- behind `events`
pub record NoRoom (lines : ℕ) (events_at : Option ℕ) (fault : ScriptFault) : Type 0 where
  pub kind : fault.kind ≡ NoMemory
  pub first : 1 ≤ fault.line
  pub line : fault.line ≤ lines
  pub head : IsInHead events_at fault.line

-- the script has no world, for this fault
abbrev pub HasNoWorld : Script → ScriptFault → Type 0
HasNoWorld script fault = (script.opening ≡ None) × (script.told ≡ only_fault (Some fault))

-- the head of the script, of so many lines, has this fault, or memory ran out
abbrev pub NotOpened : ℕ → Script → ScriptFault → Type 0
NotOpened lines script fault = HasNoWorld script fault ⊎ NoRoom lines script.events_at fault

-- ---- the events

-- this event comes first, and then those behind its line; or there is none
abbrev pub NextOf : Option ScriptFaultKind → Told → Option Found → Type 0
NextOf broke told None = (told ≡ only_fault None) × (broke ≡ None)
NextOf broke told (Some found) =
    told ≡ told_by (Ok (Some found.event)) found.line (events_from broke found.line (lines_in (option_copied found.rest)))

-- fewer bytes are left than there were, and the lines are counted within these
pub record IsWithin (most bytes : ℕ) (found : Found) : Type 0 where
  pub fits : found.line + size_in (option_copied found.rest) ≤ most
  pub fewer : size_in (option_copied found.rest) < bytes

-- memory ran out for the event that comes first
pub record NoRoomFor (told : Told) (fault : ScriptFault) : Type 0 where
  pub kind : fault.kind ≡ NoMemory
  pub here : Numbered
  pub others : Told
  pub parted : told ≡ record others { events = here ∷ others.events }
  pub line : fault.line ≡ here.line

-- a fault comes first, or memory ran out
abbrev pub NoNext : Told → ScriptFault → Type 0
NoNext told fault = (told ≡ only_fault (Some fault)) ⊎ NoRoomFor told fault
