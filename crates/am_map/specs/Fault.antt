-- The numbers of the faults, and when memory may run out: own choice (docs/FORMATS.md, "Maps").
use Rattle.std.specs.Prelude.{◌≡◌, ℕ, Result, Err, ⊤}
use Rattle.am_map.specs.declared.fault.MapFault.{MapFault}
use Rattle.am_map.specs.declared.fault.MapFaultKind.{MapFaultKind}
use Rattle.am_map.specs.declared.fault.MapFaultKind.TheVariants.{BadKey, BadOption, NoLocation, BadLocation, NoMemory}

-- from 1, in the order of a line's words
abbrev pub fault_number : MapFaultKind → ℕ
fault_number BadKey = 1
fault_number BadOption = 2
fault_number NoLocation = 3
fault_number BadLocation = 4
fault_number NoMemory = 5

-- memory ran out, or this is the fault that is expected
abbrev pub IsFaultOr : MapFaultKind → Type 0 → Type 0
IsFaultOr NoMemory expected = ⊤
IsFaultOr kind expected = expected

-- memory ran out, or the fault is the expected one
abbrev pub IsFaultOf : {T : Type 0} → Result T MapFault → MapFault → Type 0
IsFaultOf expected fault = IsFaultOr fault.kind (expected ≡ Err fault)
