-- Which places are mount traps (autofs.rst, "Mount Traps").
use Rattle.std.specs.Prelude.{ℕ, List, [], ◌∷◌, Option, Some, None, if◌then◌else◌}
use Rattle.am_names.specs.declared.trigger.Trigger.{Trigger}
use Rattle.am_trigger.specs.declared.autofs.Autofs.{Autofs}

-- indirect: each top-level name of the root is a trigger; direct: the root itself
abbrev pub trigger_in : Autofs → List (List ℕ) → Option Trigger
trigger_in row [] = if row.direct then Some (record { fs = row.fs; name = None }) else None
trigger_in row (name ∷ []) =
    if row.direct then None else Some (record { fs = row.fs; name = Some name })
trigger_in row (name ∷ below ∷ names) = None

-- the root, or the directory of this name in it
abbrev pub place_named : Option (List ℕ) → List (List ℕ)
place_named None = []
place_named (Some name) = name ∷ []

-- the place of a trigger in each mount of its file system
abbrev pub place_of : Trigger → List (List ℕ)
place_of trigger = place_named trigger.name
