-- A fault that is passed on.
use Rattle.am_map.specs.{MapFaultKind, IsFaultOr}
use Rattle.am_map.specs.declared.fault.MapFaultKind.TheVariants.{BadKey, BadOption, NoLocation, BadLocation, NoMemory}

pub passed_on : {P Q : Type 0} (kind : MapFaultKind) → (P → Q) → IsFaultOr kind P → IsFaultOr kind Q
passed_on BadKey f h = f h
passed_on BadOption f h = f h
passed_on NoLocation f h = f h
passed_on BadLocation f h = f h
passed_on NoMemory f h = tt
