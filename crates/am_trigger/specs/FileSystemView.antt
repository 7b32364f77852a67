-- What the entries by number stand for: own choice.
use Rattle.std.specs.Prelude.{◌≡◌, ◌≤◌, ℕ, List, [], ◌∷◌}
use Rattle.std.specs.Map.{values_of}
use Rattle.indexmap.specs.IndexMap.{spare}
use Rattle.am_trigger.specs.FileSystemTable.{FileSystemTable}
use Rattle.am_trigger.specs.declared.autofs.Autofs.{Autofs}
use Rattle.am_trigger.specs.declared.file_systems.FileSystems.TheInside.{Inside}

-- the rows of the entries, and the room that was made
abbrev pub file_systems_of : Inside → FileSystemTable
file_systems_of f = record { rows = values_of f.entries.entries; room = f.room }

-- each autofs stands at its number
abbrev pub AreAtTheirs : List (ℕ × Autofs) → Type 0
AreAtTheirs [] = Unit {0}
AreAtTheirs (entry ∷ entries) = (entry.0 ≡ entry.1.fs) × AreAtTheirs entries

-- each autofs is found by its number, and the room is there
pub record IsNumbered (f : Inside) : Type 0 where
  pub numbers : AreAtTheirs f.entries.entries
  pub room : f.room ≤ spare f.entries
