-- The words of faults: own choice (docs/FORMATS.md, "Faults" and "Sessions").
use Rattle.std.specs.Prelude.{ℕ, List, codes}
use Rattle.am_map.specs.{MapFaultKind}
use Rattle.am_map.specs.declared.fault.MapFaultKind.TheVariants as of_map
use Rattle.am_master.specs.{MasterFaultKind}
use Rattle.am_master.specs.declared.fault.MasterFaultKind.TheVariants as of_master
use Rattle.am_script.specs.{ScriptFaultKind}
use Rattle.am_script.specs.declared.fault.ScriptFaultKind.TheVariants as of_script
use Rattle.am_serve.specs.declared.complaints.Complaint.{Complaint}
use Rattle.am_serve.specs.declared.complaints.Complaint.TheVariants.{OfScript, NoWorld, NotSaved, BadQuestion}

-- the word for a fault of a map section
abbrev pub map_word : MapFaultKind → List ℕ
map_word of_map.BadKey = codes "BadKey"
map_word of_map.BadOption = codes "BadOption"
map_word of_map.NoLocation = codes "NoLocation"
map_word of_map.BadLocation = codes "BadLocation"
map_word of_map.NoMemory = codes "NoMemory"

-- the word for a fault of the master section
abbrev pub master_word : MasterFaultKind → List ℕ
master_word of_master.BadPoint = codes "BadPoint"
master_word of_master.NoMap = codes "NoMap"
master_word of_master.BadType = codes "BadType"
master_word of_master.BadTimeout = codes "BadTimeout"
master_word of_master.Twice = codes "Twice"
master_word of_master.NoMemory = codes "NoMemory"

-- the word for a fault of a script
abbrev pub kind_word : ScriptFaultKind → List ℕ
kind_word of_script.BadSection = codes "BadSection"
kind_word of_script.BadLimits = codes "BadLimits"
kind_word (of_script.BadMaster kind) = master_word kind
kind_word (of_script.BadMap kind) = map_word kind
kind_word of_script.NoSuchMap = codes "NoSuchMap"
kind_word of_script.BadEvent = codes "BadEvent"
kind_word of_script.LongLine = codes "LongLine"
kind_word of_script.NoMemory = codes "NoMemory"
kind_word of_script.ReadFailed = codes "ReadFailed"
kind_word of_script.WriteFailed = codes "WriteFailed"
kind_word of_script.NoSuchNamespace = codes "NoSuchNamespace"

-- the word for what is wrong with a line
abbrev pub complaint_word : Complaint → List ℕ
complaint_word (OfScript kind) = kind_word kind
complaint_word NoWorld = codes "NoWorld"
complaint_word NotSaved = codes "NotSaved"
complaint_word BadQuestion = codes "BadQuestion"
