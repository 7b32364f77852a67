-- The numbers of the faults, and when memory may run out: own choice (docs/FORMATS.md, "Master
-- maps").
use Rattle.std.specs.Prelude.{◌≡◌, ℕ, Result, Err, ⊤}
use Rattle.am_master.specs.declared.fault.MasterFault.{MasterFault}
use Rattle.am_master.specs.declared.fault.MasterFaultKind.{MasterFaultKind}
use Rattle.am_master.specs.declared.fault.MasterFaultKind.TheVariants.{BadPoint, NoMap, BadType, BadTimeout, Twice, NoMemory}

-- from 1
abbrev pub fault_number : MasterFaultKind → ℕ
fault_number BadPoint = 1
fault_number NoMap = 2
fault_number BadType = 3
fault_number BadTimeout = 4
fault_number Twice = 5
fault_number NoMemory = 6

-- memory ran out, or this is the fault that is expected
abbrev pub IsFaultOr : MasterFaultKind → Type 0 → Type 0
IsFaultOr NoMemory expected = ⊤
IsFaultOr kind expected = expected

-- memory ran out, or the fault is the expected one
abbrev pub IsFaultOf : {T : Type 0} → Result T MasterFault → MasterFault → Type 0
IsFaultOf expected fault = IsFaultOr fault.kind (expected ≡ Err fault)
