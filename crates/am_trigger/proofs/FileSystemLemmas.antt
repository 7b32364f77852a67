-- Each autofs at its number.
use Rattle.std.proofs.Common.{◌≡◌, ℕ, Bool, true, false, cond, ◌==◌, List, [], ◌∷◌, ◌++◌, Some, None, refl, sym, ap, ◌∙◌, arith}
use Rattle.std.specs.Prelude.{find, map, nat_eq}
use Rattle.std.proofs.lemmas.Bool.Decides.{nat_tests}
use Rattle.std.specs.List.{AllByRecursion, IsDistinct}
use Rattle.std.specs.Map.{lookup, keys_of, values_of, set_value}
use Rattle.indexmap.specs.IndexMap.{insert_entry}
use Rattle.am_trigger.specs.{Autofs, catatonic_row}
use Rattle.am_trigger.specs.FileSystemView.{AreAtTheirs}

-- the test of a key is that of its row
its_test : (fs : ℕ) (entry : ℕ × Autofs) → entry.0 ≡ entry.1.fs → nat_eq fs entry.0 ≡ (entry.1.fs == fs)
its_test fs entry at = grind (arith, nat_tests, at)

-- an autofs is found by its number
pub found_by_number :
    (fs : ℕ) (entries : List (ℕ × Autofs)) → AreAtTheirs entries →
    lookup (nat_eq fs) entries ≡ find (λ row. row.fs == fs) (values_of entries)
found_by_number fs [] at = refl
found_by_number fs (entry ∷ entries) at =
    rw (its_test fs entry at.0, found_by_number fs entries at.1) refl

-- ---- one more

pub new_goes_last :
    (row : Autofs) (entries : List (ℕ × Autofs)) → AreAtTheirs entries →
    find (λ other. other.fs == row.fs) (values_of entries) ≡ None →
    values_of (insert_entry nat_eq entries row.fs row) ≡ values_of entries ++ row ∷ []
new_goes_last row [] at fresh = refl
new_goes_last row (entry ∷ entries) at fresh =
    by (entry.1.fs == row.fs) refl fresh (new_goes_last row entries at.1)
  where
    by :
        (b : Bool) → (entry.1.fs == row.fs) ≡ b →
        cond b (Some entry.1) (find (λ other. other.fs == row.fs) (values_of entries)) ≡ None →
        (find (λ other. other.fs == row.fs) (values_of entries) ≡ None → values_of (insert_entry nat_eq entries row.fs row) ≡ values_of entries ++ row ∷ []) →
        values_of (insert_entry nat_eq (entry ∷ entries) row.fs row) ≡ entry.1 ∷ (values_of entries ++ row ∷ [])
    by true e none later = absurd cc
    by false e none later = rw (its_test row.fs entry at.0 ∙ e, later none) refl

pub new_at_its :
    (row : Autofs) (entries : List (ℕ × Autofs)) → AreAtTheirs entries →
    AreAtTheirs (insert_entry nat_eq entries row.fs row)
new_at_its row [] at = (refl, tt)
new_at_its row (entry ∷ entries) at = by (nat_eq row.fs entry.0) refl (new_at_its row entries at.1)
  where
    by :
        (b : Bool) → nat_eq row.fs entry.0 ≡ b → AreAtTheirs (insert_entry nat_eq entries row.fs row) →
        AreAtTheirs (cond b ((entry.0, row) ∷ entries) (entry ∷ insert_entry nat_eq entries row.fs row))
    by true e later = (grind (arith, nat_tests, e), at.1)
    by false e later = (at.0, later)

-- ---- one that changes

-- where none is of the file system none changes
pub none_changes :
    (fs : ℕ) (catatonic : Bool) (entries : List (ℕ × Autofs)) → AreAtTheirs entries →
    lookup (nat_eq fs) entries ≡ None →
    values_of entries ≡ map (catatonic_row fs catatonic) (values_of entries)
none_changes fs catatonic [] at none = refl
none_changes fs catatonic (entry ∷ entries) at none =
    by (nat_eq fs entry.0) refl none (none_changes fs catatonic entries at.1)
  where
    by :
        (b : Bool) → nat_eq fs entry.0 ≡ b → cond b (Some entry.1) (lookup (nat_eq fs) entries) ≡ None →
        (lookup (nat_eq fs) entries ≡ None → values_of entries ≡ map (catatonic_row fs catatonic) (values_of entries)) →
        entry.1 ∷ values_of entries ≡ catatonic_row fs catatonic entry.1 ∷ map (catatonic_row fs catatonic) (values_of entries)
    by true e none later = absurd cc
    by false e none later =
        rw (sym (its_test fs entry at.0) ∙ e) (ap (λ (rows : List Autofs). entry.1 ∷ rows) (later none))

absent_elsewhere :
    (number fs : ℕ) → nat_eq fs number ≡ true → (entries : List (ℕ × Autofs)) →
    AllByRecursion (λ key. nat_eq number key ≡ false) (keys_of entries) →
    lookup (nat_eq fs) entries ≡ None
absent_elsewhere number fs same [] all = refl
absent_elsewhere number fs same (entry ∷ entries) all =
    let differs : nat_eq fs entry.0 ≡ false = grind (arith, nat_tests, same, all.0) in
    rw differs (absent_elsewhere number fs same entries all.1)

pub one_changes :
    (fs : ℕ) (catatonic : Bool) (row : Autofs) (entries : List (ℕ × Autofs)) → AreAtTheirs entries →
    IsDistinct nat_eq (keys_of entries) → lookup (nat_eq fs) entries ≡ Some row →
    values_of (set_value (nat_eq fs) entries (record row { catatonic = catatonic })) ≡
    map (catatonic_row fs catatonic) (values_of entries)
unfolding IsDistinct
one_changes fs catatonic row [] at distinct found = absurd cc
one_changes fs catatonic row (entry ∷ entries) at distinct found =
    by (nat_eq fs entry.0) refl found (one_changes fs catatonic row entries at.1 distinct.1)
  where
    new : Autofs
    new = record row { catatonic = catatonic }

    by :
        (b : Bool) → nat_eq fs entry.0 ≡ b → cond b (Some entry.1) (lookup (nat_eq fs) entries) ≡ Some row →
        (lookup (nat_eq fs) entries ≡ Some row → values_of (set_value (nat_eq fs) entries new) ≡ map (catatonic_row fs catatonic) (values_of entries)) →
        values_of (cond b ((entry.0, new) ∷ entries) (entry ∷ set_value (nat_eq fs) entries new)) ≡
        catatonic_row fs catatonic entry.1 ∷ map (catatonic_row fs catatonic) (values_of entries)
    by true e found later =
        let is : entry.1 ≡ row = cc in
        rw (sym (its_test fs entry at.0) ∙ e, is)
        (ap (λ (rows : List Autofs). new ∷ rows) (none_changes fs catatonic entries at.1 (absent_elsewhere entry.0 fs e entries distinct.0)))
    by false e found later =
        rw (sym (its_test fs entry at.0) ∙ e) (ap (λ (rows : List Autofs). entry.1 ∷ rows) (later found))

pub changed_at_its :
    (fs : ℕ) (row : Autofs) (entries : List (ℕ × Autofs)) → AreAtTheirs entries → row.fs ≡ fs →
    AreAtTheirs (set_value (nat_eq fs) entries row)
changed_at_its fs row [] at its = tt
changed_at_its fs row (entry ∷ entries) at its = by (nat_eq fs entry.0) refl (changed_at_its fs row entries at.1 its)
  where
    by :
        (b : Bool) → nat_eq fs entry.0 ≡ b → AreAtTheirs (set_value (nat_eq fs) entries row) →
        AreAtTheirs (cond b ((entry.0, row) ∷ entries) (entry ∷ set_value (nat_eq fs) entries row))
    by true e later = (grind (arith, nat_tests, e, its), at.1)
    by false e later = (at.0, later)

-- what is found by a number has that number
pub found_has_its :
    (fs : ℕ) (row : Autofs) (entries : List (ℕ × Autofs)) → AreAtTheirs entries →
    lookup (nat_eq fs) entries ≡ Some row → row.fs ≡ fs
found_has_its fs row [] at found = absurd cc
found_has_its fs row (entry ∷ entries) at found = by (nat_eq fs entry.0) refl found (found_has_its fs row entries at.1)
  where
    by :
        (b : Bool) → nat_eq fs entry.0 ≡ b → cond b (Some entry.1) (lookup (nat_eq fs) entries) ≡ Some row →
        (lookup (nat_eq fs) entries ≡ Some row → row.fs ≡ fs) → row.fs ≡ fs
    by true e found later =
        let is : entry.1 ≡ row = cc in
        sym (ap (λ (r : Autofs). r.fs) is) ∙ sym at.0 ∙ grind (arith, nat_tests, e)
    by false e found later = later found
