-- The faults of a scene: their numbers, and the lines at which they are told. Own choice
-- (docs/FORMATS.md, "Faults of a scene").
use Rattle.std.specs.Prelude.{ℕ}
use Rattle.am_script.specs.{ScriptFault, ScriptFaultKind}
use Rattle.am_script.specs.declared.fault.ScriptFaultKind.TheVariants as scripts
use Rattle.am_scenes.specs.declared.fault.SceneFault.{SceneFault}
use Rattle.am_scenes.specs.declared.fault.SceneFaultKind.{SceneFaultKind}
use Rattle.am_scenes.specs.declared.fault.SceneFaultKind.TheVariants as kinds

-- the number of a fault
abbrev pub kind_number : SceneFaultKind → ℕ
kind_number (kinds.Script kind) = 1
kind_number kinds.NoEvents = 2
kind_number kinds.BadLine = 3
kind_number kinds.LateLine = 4
kind_number kinds.BadThread = 5
kind_number kinds.ThreadTwice = 6
kind_number kinds.NoEnd = 7
kind_number kinds.BadThreadEvent = 8
kind_number kinds.BadService = 9
kind_number kinds.ServiceTwice = 10
kind_number kinds.BadQuestion = 11
kind_number kinds.NoSuchThread = 12
kind_number kinds.NoSuchEvent = 13
kind_number kinds.BadAnswer = 14
kind_number kinds.NoMemory = 15

-- a fault on this line
abbrev pub fault_at : ℕ → SceneFaultKind → SceneFault
fault_at line kind = record { line = line; kind = kind }

-- a fault that a script can have
abbrev pub kind_of_script : ScriptFaultKind → SceneFaultKind
kind_of_script scripts.NoMemory = kinds.NoMemory
kind_of_script kind = kinds.Script kind

-- the same on its line
abbrev pub fault_of_script : ScriptFault → SceneFault
fault_of_script fault = fault_at fault.line (kind_of_script fault.kind)
