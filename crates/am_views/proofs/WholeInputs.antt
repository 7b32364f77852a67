-- A script that is read whole.
use Rattle.std.proofs.Common.{ℕ, List, Option, Some, None, IfNone, IfSome, option_copied}
use Rattle.std.proofs.KnownBytes.{Appends-nil}
use Rattle.std.specs.Io.KnownBytes.{Consumes, IsAtEnd}
use Rattle.am_script.specs.{ScriptFault, ScriptFaultKind, lines_in, NotOpened, IsReadFault, WasRead, Told, events_from}
use Rattle.am_script.specs.declared.visit.Opened.{Opened}
use Rattle.am_script.specs.Script.{Script}
use Rattle.am_views.specs.{HeadStops}

pub was_read : (ro rn : Option (List ℕ)) (text : List ℕ) (broke : Option ScriptFaultKind) → Consumes ro rn text → IfNone broke (IsAtEnd rn) → IfSome broke IsReadFault → WasRead ro rn text broke
was_read ro rn text None read end fault = (read, end)
was_read ro rn text (Some kind) read end fault = (read, fault)

pub head_stops : (lines : ℕ) (script : Script) (wo : Option (List ℕ)) (fault : ScriptFault) → NotOpened lines script fault → HeadStops lines script wo wo fault
head_stops lines script wo fault stops = record { found = stops; written = Appends-nil wo }

-- what its events tell behind its head
abbrev pub told_in : Opened → Told
told_in opened = events_from opened.broke opened.line (lines_in (option_copied opened.rest))
