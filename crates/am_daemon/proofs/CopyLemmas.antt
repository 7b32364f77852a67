-- What the clones of maps hold, and that no file system has two paths.
use Rattle.std.proofs.Common.{◌≡◌, ℕ, List, [], ◌∷◌, map, refl, ap, subst}
use Rattle.std.specs.List.{AllZip, IsDistinct}
use Rattle.std.specs.Map.{keys_of}
use Rattle.std.specs.Prelude.{nat_eq}
use Rattle.std.proofs.lemmas.List.Elements.{same_from_all_zip}
use Rattle.am_daemon.specs.{AreOnce}
use Rattle.am_daemon.specs.Known.{rows_of}

-- a number beside another, and a clone of it
abbrev pub IsSamePair : ℕ × ℕ → ℕ × ℕ → Type 0
IsSamePair p q = (q.0 ≡ p.0) × (q.1 ≡ p.1)

-- the clone of a map of numbers has the same
pub same_numbers : (es fs : List (ℕ × ℕ)) → AllZip IsSamePair es fs → fs ≡ es
same_numbers es fs clones = same_from_all_zip IsSamePair es fs clones (λ p q h. (λ i. (h.0 i, h.1 i)))

-- the keys of the paths are the numbers of their file systems
keys_are : (es : List (ℕ × List (List ℕ))) → map (λ row. row.fs) (rows_of es) ≡ keys_of es
keys_are [] = refl
keys_are (e ∷ es) = ap (λ (ns : List ℕ). e.0 ∷ ns) (keys_are es)

-- no key is there twice
pub keys_once : (es : List (ℕ × List (List ℕ))) → AreOnce (map (λ row. row.fs) (rows_of es)) → IsDistinct nat_eq (keys_of es)
keys_once es once = subst (λ (ns : List ℕ). AreOnce ns) (keys_are es) once
