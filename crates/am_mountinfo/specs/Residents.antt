-- The mounts of each namespace as they are kept. For the code alone: own choice.
use Rattle.std.specs.Prelude.{◌≡◌, ◌==◌, ℕ, nat_eq, List, [], ◌∷◌, ◌++◌, map, filter, Option, None, Some, Vec, if◌then◌else◌}
use Rattle.std.specs.Borrow.{Bor}
use Rattle.indexmap.specs.IndexMap.{get}
use Rattle.am_names.specs.{MountRow}
use Rattle.am_mount.specs.{is_in}
use Rattle.am_mountinfo.specs.declared.residents.Residents.{Residents}

-- the rows, if a list of them is kept
abbrev pub rows_in : {Z : Type 0} → Option (Vec (Bor MountRow) Z) → List MountRow
rows_in None = []
rows_in (Some list) = map (λ row. row.now) list.items

-- the mounts that are kept of a namespace
abbrev pub residents : Residents → ℕ → List MountRow
residents found ns = rows_in (get nat_eq found.lists ns)

-- the mounts of each namespace are kept
abbrev pub AreResidents : Residents → List MountRow → Type 0
AreResidents found rows = (ns : ℕ) → residents found ns ≡ filter (is_in ns) rows

-- this one is kept too, behind those of its namespace
abbrev pub HasOneResidentMore : MountRow → Residents → Residents → Type 0
HasOneResidentMore row old new =
    (ns : ℕ) →
    residents new ns ≡ (if row.ns == ns then residents old ns ++ row ∷ [] else residents old ns)
