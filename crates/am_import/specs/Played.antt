-- Why the events behind a head aren't all taken. For the code alone: own choice.
use Rattle.std.specs.Prelude.{◌≡◌, ◌⊎◌, Some, ⊤}
use Rattle.am_machine.specs.State.{State}
use Rattle.am_script.specs.{ScriptFault, Told}
use Rattle.am_import.specs.declared.imports.ImportFault.{ImportFault}
use Rattle.am_import.specs.declared.imports.ImportFault.TheVariants.{NoMemory, NotPlayed}
use Rattle.am_import.specs.Imported.{IsRefused}

-- memory ran out; or a line is at fault, or one of the events is refused
abbrev pub IsBehindFault : State → Told → ImportFault → Type 0
IsBehindFault start told NoMemory = ⊤
IsBehindFault start told NotPlayed = ((fault : ScriptFault) × (told.fault ≡ Some fault)) ⊎ IsRefused start told
IsBehindFault start told _ = ⊥
