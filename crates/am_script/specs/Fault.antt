-- Faults: their numbers, and where they are told: own choice (docs/FORMATS.md, "Faults").
use Rattle.std.specs.Prelude.{◌≡◌, ◌⊎◌, ℕ, ◌+◌, Result, Err}
use Rattle.am_script.specs.declared.fault.ScriptFault.{ScriptFault}
use Rattle.am_script.specs.declared.fault.ScriptFaultKind.{ScriptFaultKind}
use Rattle.am_script.specs.declared.fault.ScriptFaultKind.TheVariants.{BadSection, BadLimits, BadMaster, BadMap, NoSuchMap, BadEvent, LongLine, NoMemory, ReadFailed, WriteFailed, NoSuchNamespace}

-- the number of a fault, which its line on standard error doesn't tell
abbrev pub kind_number : ScriptFaultKind → ℕ
kind_number BadSection = 1
kind_number BadLimits = 2
kind_number (BadMaster kind) = 3
kind_number (BadMap kind) = 4
kind_number NoSuchMap = 5
kind_number BadEvent = 6
kind_number LongLine = 7
kind_number NoMemory = 8
kind_number ReadFailed = 9
kind_number WriteFailed = 10
kind_number NoSuchNamespace = 11

-- a fault on this line
abbrev pub fault_at : ℕ → ScriptFaultKind → ScriptFault
fault_at line kind = record { line = line; kind = kind }

-- a fault on a line of a section's text, the first of which is the line behind the section's first
abbrev pub fault_in : ℕ → ℕ → ScriptFaultKind → ScriptFault
fault_in first line kind = fault_at (first + line) kind

-- this is the fault that is expected, or memory ran out, which is told at this line
abbrev pub IsFaultOr : {T : Type 0} → ℕ → ScriptFault → Result T ScriptFault → Type 0
IsFaultOr number fault expected = (expected ≡ Err fault) ⊎ (fault ≡ fault_at number NoMemory)
