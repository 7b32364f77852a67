-- What was read of a script: own choice (docs/FORMATS.md, "Faults").
use Rattle.std.specs.Prelude.{◌≡◌, ◌⊎◌, ℕ, ◌-◌, List, [], ◌∷◌, length, take, Option, None, Some, if◌then◌else◌}
use Rattle.std.specs.Io.KnownBytes.{Consumes, IsAtEnd}
use Rattle.am_script.specs.declared.fault.ScriptFaultKind.{ScriptFaultKind}
use Rattle.am_script.specs.declared.fault.ScriptFaultKind.TheVariants.{LongLine, NoMemory, ReadFailed}
use Rattle.am_script.specs.Lines.{lines_of, is_long}

-- reading broke off: it failed, or memory ran out
abbrev pub IsReadFault : ScriptFaultKind → Type 0
IsReadFault kind = (kind ≡ ReadFailed) ⊎ (kind ≡ NoMemory)

-- these bytes were read: all there were, or those before reading broke off
abbrev pub WasRead : Option (List ℕ) → Option (List ℕ) → List ℕ → Option ScriptFaultKind → Type 0
WasRead old new text None = Consumes old new text × IsAtEnd new
WasRead old new text (Some kind) = Consumes old new text × IsReadFault kind

-- the last line, which is empty where there is none
abbrev pub last_of : List (List ℕ) → List ℕ
last_of [] = []
last_of (line ∷ []) = line
last_of (line ∷ next ∷ lines) = last_of (next ∷ lines)

-- the line within which reading broke off
abbrev pub cut_line : List ℕ → List ℕ
cut_line text = last_of (lines_of text)

-- the text that is played: the lines that were read whole
abbrev pub played : Option ScriptFaultKind → List ℕ → List ℕ
played None text = text
played (Some kind) text = take (length text - length (cut_line text)) text

-- a line that is too long is told as soon as 8,193 bytes of it were read
abbrev pub cut_kind : List ℕ → ScriptFaultKind → ScriptFaultKind
cut_kind cut kind = if is_long cut then LongLine else kind

-- the fault behind the lines that were read whole, if reading broke off
abbrev pub broken : Option ScriptFaultKind → List ℕ → Option ScriptFaultKind
broken None text = None
broken (Some kind) text = Some (cut_kind (cut_line text) kind)
