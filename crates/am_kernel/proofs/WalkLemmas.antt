-- What a file system that becomes catatonic leaves, and what a walk leaves of its walker's wait.
use Rattle.std.proofs.Common.{◌≡◌, ◌≤◌, ℕ, Bool, true, false, cond, ◌==◌, List, [], ◌∷◌, map, Some, None, refl, sym, ap, subst}
use Rattle.std.specs.Prelude.{find}
use Rattle.std.specs.List.{All}
use Rattle.std.proofs.lemmas.List.Elements.{All-map}
use Rattle.am_trigger.specs.{Autofs, TriggerRows, autofs_of, catatonic_row, with_catatonic}

-- ---- catatonic

pub catatonic_fs : (fs : ℕ) (catatonic : Bool) (row : Autofs) → (catatonic_row fs catatonic row).fs ≡ row.fs
catatonic_fs fs catatonic row = elim (row.fs == fs) as (λ b. (cond b (record row { catatonic = catatonic }) row).fs ≡ row.fs) [ true ↦ refl | false ↦ refl ]

-- the numbers of the file systems stay within a bound
pub catatonic_within : (last fs : ℕ) (catatonic : Bool) (rows : List Autofs) → All (λ (row : Autofs). row.fs ≤ last) rows → All (λ (row : Autofs). row.fs ≤ last) (map (catatonic_row fs catatonic) rows)
catatonic_within last fs catatonic rows h =
    All-map (λ (row : Autofs). row.fs ≤ last) (catatonic_row fs catatonic) rows (λ k d e. subst (λ (n : ℕ). n ≤ last) (sym (catatonic_fs fs catatonic _)) (h k d e))

-- an unknown file system changes nothing
unknown_unchanged : (fs : ℕ) (catatonic : Bool) (rows : List Autofs) → find (λ row. row.fs == fs) rows ≡ None → map (catatonic_row fs catatonic) rows ≡ rows
unknown_unchanged fs catatonic [] h = refl
unknown_unchanged fs catatonic (row ∷ rows) h = by_test (row.fs == fs) h (unknown_unchanged fs catatonic rows)
  where
    by_test : (b : Bool) → cond b (Some row) (find (λ (other : Autofs). other.fs == fs) rows) ≡ None → (find (λ (other : Autofs). other.fs == fs) rows ≡ None → map (catatonic_row fs catatonic) rows ≡ rows) → cond b (record row { catatonic = catatonic }) row ∷ map (catatonic_row fs catatonic) rows ≡ row ∷ rows
    by_test true h later = absurd cc
    by_test false h later = ap (λ (others : List Autofs). row ∷ others) (later h)

pub catatonic_absent : (fs : ℕ) (catatonic : Bool) (t : TriggerRows) → autofs_of t fs ≡ None → with_catatonic fs catatonic t ≡ t
catatonic_absent fs catatonic t h = ap (λ (rows : List Autofs). record t { autofs = rows }) (unknown_unchanged fs catatonic t.autofs h)
