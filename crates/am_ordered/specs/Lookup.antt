-- An ordered map as a finite map: own choice (docs/DECISIONS.md, "A map in order of insertion is a
-- crate of its own").
pub use Rattle.indexmap.specs.IndexMap.{insert_entry, shift_remove_entry}
use Rattle.std.specs.Prelude.{◌≡◌, Bool, List, Option, if◌then◌else◌}
use Rattle.std.specs.Map.{lookup}

-- the key has this value, or none, and each other one has what it had
abbrev pub IsUpdated : {K V : Type 0} → (K → K → Bool) → K → Option V → List (K × V) →
    List (K × V) → Type 0
IsUpdated {K} eq key value old new =
    (q : K) → lookup (eq q) new ≡ (if eq key q then value else lookup (eq q) old)
