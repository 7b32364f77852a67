-- A fault that is passed on.
use Rattle.am_master.specs.{MasterFaultKind, IsFaultOr}
use Rattle.am_master.specs.declared.fault.MasterFaultKind.TheVariants.{BadPoint, NoMap, BadType, BadTimeout, Twice, NoMemory}

pub passed_on : {P Q : Type 0} (kind : MasterFaultKind) → (P → Q) → IsFaultOr kind P → IsFaultOr kind Q
passed_on BadPoint f h = f h
passed_on NoMap f h = f h
passed_on BadType f h = f h
passed_on BadTimeout f h = f h
passed_on Twice f h = f h
passed_on NoMemory f h = tt

pub is_fault : {P : Type 0} (kind : MasterFaultKind) → P → IsFaultOr kind P
is_fault BadPoint h = h
is_fault NoMap h = h
is_fault BadType h = h
is_fault BadTimeout h = h
is_fault Twice h = h
is_fault NoMemory h = tt
