-- Rows that are found by their file systems.
use Rattle.std.proofs.Common.{◌≡◌, ◌≤◌, ℕ, zero, suc, ◌==◌, Bool, true, false, cond, not, ◌&&◌, ◌||◌, List, [], ◌∷◌, ◌++◌, length, drop, map, filter, slice_get, IfSome, Some, refl, sym, ap, subst, ◌∙◌, arith}
use Rattle.std.specs.Prelude.{find, is_some, nat_eq}
use Rattle.std.specs.List.{list_any, AllByRecursion, IsDistinct}
use Rattle.std.specs.Map.{lookup, keys_of}
use Rattle.std.specs.Option.{option_map, option_map_or}
use Rattle.std.proofs.lemmas.Bool.Decides.{nat_tests}
use Rattle.am_ordered.specs.{insert_entry, shift_remove_entry}
use Rattle.am_state.specs.{HeldRow}
use Rattle.am_daemon.specs.{AreOnce}

either_way : (a b : ℕ) → nat_eq a b ≡ (b == a)
either_way a b = grind (arith, nat_tests)

equal_by_key : (a b : ℕ) → nat_eq a b ≡ true → b ≡ a
equal_by_key a b e = grind (arith, nat_tests, e)

-- a row is made of its file system and what it has of it
module _ {V R : Type 0} (row_of : (ℕ × V) → R) (fs_of : R → ℕ) (value_of : R → V) (has_fs : (pair : ℕ × V) → fs_of (row_of pair) ≡ pair.0) (has_value : (pair : ℕ × V) → value_of (row_of pair) ≡ pair.1) where
  its_test : (fs : ℕ) (pair : ℕ × V) → nat_eq fs pair.0 ≡ (fs_of (row_of pair) == fs)
  its_test fs pair = either_way fs pair.0 ∙ ap (λ (n : ℕ). n == fs) (sym (has_fs pair))

  -- what is found by hash is that of the first row of the file system
  pub lookup_is : (fs : ℕ) (pairs : List (ℕ × V)) → lookup (nat_eq fs) pairs ≡ option_map value_of (find (λ row. fs_of row == fs) (map row_of pairs))
  lookup_is fs [] = refl
  lookup_is fs (pair ∷ pairs) =
      rw (its_test fs pair) (elim (fs_of (row_of pair) == fs) as (λ b. cond b (Some pair.1) (lookup (nat_eq fs) pairs) ≡ option_map value_of (cond b (Some (row_of pair)) (find (λ row. fs_of row == fs) (map row_of pairs)))) [
        | true ↦ ap (λ (v : V). Some v) (sym (has_value pair))
        | false ↦ lookup_is fs pairs
      ])

  -- the file system is found where it has a row
  pub found_is : (fs : ℕ) (pairs : List (ℕ × V)) → is_some (lookup (nat_eq fs) pairs) ≡ list_any (λ row. fs_of row == fs) (map row_of pairs)
  found_is fs [] = refl
  found_is fs (pair ∷ pairs) =
      rw (its_test fs pair) (elim (fs_of (row_of pair) == fs) as (λ b. is_some (cond b (Some pair.1) (lookup (nat_eq fs) pairs)) ≡ b || list_any (λ row. fs_of row == fs) (map row_of pairs)) [
        | true ↦ refl
        | false ↦ found_is fs pairs
      ])

  -- no row of another file system goes
  none_go : (fs : ℕ) (pairs : List (ℕ × V)) → AllByRecursion (λ key. nat_eq fs key ≡ false) (keys_of pairs) → map row_of pairs ≡ filter (λ row. not (fs_of row == fs)) (map row_of pairs)
  none_go fs [] h = refl
  none_go fs (pair ∷ pairs) h =
      rw (sym (its_test fs pair) ∙ h.0) (ap (λ (rows : List R). row_of pair ∷ rows) (none_go fs pairs h.1))

  -- one of a file system that has no row goes last
  goes_last : (fs : ℕ) (value : V) (pairs : List (ℕ × V)) → AllByRecursion (λ key. nat_eq fs key ≡ false) (keys_of pairs) → map row_of (insert_entry nat_eq pairs fs value) ≡ map row_of pairs ++ row_of (fs, value) ∷ []
  goes_last fs value [] h = refl
  goes_last fs value (pair ∷ pairs) h =
      rw h.0 (ap (λ (rows : List R). row_of pair ∷ rows) (goes_last fs value pairs h.1))

  -- the rows of the file system go, and one of it comes last
  pub put_is : (fs : ℕ) (value : V) (pairs : List (ℕ × V)) → IsDistinct nat_eq (keys_of pairs) →
      map row_of (insert_entry nat_eq (shift_remove_entry (nat_eq fs) pairs) fs value) ≡ filter (λ row. not (fs_of row == fs)) (map row_of pairs) ++ row_of (fs, value) ∷ []
  unfolding IsDistinct
  put_is fs value [] distinct = refl
  put_is fs value (pair ∷ pairs) distinct = by (nat_eq fs pair.0) refl (put_is fs value pairs distinct.1)
    where
      by : (b : Bool) → nat_eq fs pair.0 ≡ b →
          map row_of (insert_entry nat_eq (shift_remove_entry (nat_eq fs) pairs) fs value) ≡ filter (λ row. not (fs_of row == fs)) (map row_of pairs) ++ row_of (fs, value) ∷ [] →
          map row_of (insert_entry nat_eq (shift_remove_entry (nat_eq fs) (pair ∷ pairs)) fs value) ≡ filter (λ row. not (fs_of row == fs)) (map row_of (pair ∷ pairs)) ++ row_of (fs, value) ∷ []
      by true h later =
          let same : (fs_of (row_of pair) == fs) ≡ true = sym (its_test fs pair) ∙ h in
          let apart : AllByRecursion (λ key. nat_eq fs key ≡ false) (keys_of pairs) = subst (λ (x : ℕ). AllByRecursion (λ key. nat_eq x key ≡ false) (keys_of pairs)) (equal_by_key fs pair.0 h) distinct.0 in
          rw (h, same) (goes_last fs value pairs apart ∙ ap (λ (rows : List R). rows ++ row_of (fs, value) ∷ []) (none_go fs pairs apart))
      by false h later =
          let differs : (fs_of (row_of pair) == fs) ≡ false = sym (its_test fs pair) ∙ h in
          rw (h, differs, h) (ap (λ (rows : List R). row_of pair ∷ rows) later)

-- ---- the one attachment that is held

-- no row is of a file system that is elsewhere
none_held : (fs attach : ℕ) (rows : List HeldRow) → AllByRecursion (λ other. (fs == other) ≡ false) (map (λ row. row.fs) rows) → list_any (λ row. row.fs == fs && row.attach == attach) rows ≡ false
none_held fs attach [] h = refl
none_held fs attach (row ∷ rows) h =
    let differs : (row.fs == fs) ≡ false = grind (arith, nat_tests, h.0) in
    rw differs (none_held fs attach rows h.1)

-- an attachment is held where it is that of the first row
pub held_alone : (fs attach : ℕ) (rows : List HeldRow) → AreOnce (map (λ row. row.fs) rows) →
    option_map_or (λ (held : ℕ). held == attach) (option_map (λ row. row.attach) (find (λ (row : HeldRow). row.fs == fs) rows)) false ≡ list_any (λ row. row.fs == fs && row.attach == attach) rows
unfolding IsDistinct
held_alone fs attach [] once = refl
held_alone fs attach (row ∷ rows) once = by (row.fs == fs) refl (held_alone fs attach rows once.1)
  where
    this : (b : Bool) → list_any (λ (r : HeldRow). r.fs == fs && r.attach == attach) rows ≡ false → b ≡ (b || list_any (λ (r : HeldRow). r.fs == fs && r.attach == attach) rows)
    this true none = refl
    this false none = sym none

    by : (b : Bool) → (row.fs == fs) ≡ b →
        option_map_or (λ (held : ℕ). held == attach) (option_map (λ row. row.attach) (find (λ (row : HeldRow). row.fs == fs) rows)) false ≡ list_any (λ row. row.fs == fs && row.attach == attach) rows →
        option_map_or (λ (held : ℕ). held == attach) (option_map (λ row. row.attach) (find (λ (row : HeldRow). row.fs == fs) (row ∷ rows))) false ≡ list_any (λ row. row.fs == fs && row.attach == attach) (row ∷ rows)
    by true same later =
        let its : row.fs ≡ fs = grind (arith, nat_tests, same) in
        let none = none_held fs attach rows (subst (λ (n : ℕ). AllByRecursion (λ other. (n == other) ≡ false) (map (λ row. row.fs) rows)) its once.0) in
        rw same (this (row.attach == attach) none)
    by false differs later = rw differs later

-- ---- the places, the last first

-- what is true of one of those left is true of one of all
pub any_of_all : {X : Type 0} (test : X → Bool) (xs : List X) (at : ℕ) → list_any test (drop at xs) ≡ true → list_any test xs ≡ true
any_of_all test xs zero h = h
any_of_all test [] (suc at) h = h
any_of_all test (x ∷ xs) (suc at) h = by (test x) (any_of_all test xs at h)
  where
    by : (b : Bool) → list_any test xs ≡ true → (b || list_any test xs) ≡ true
    by true later = refl
    by false later = later

-- one more is looked at
pub any_with : {X : Type 0} (test : X → Bool) (xs : List X) (at n : ℕ) (b : Bool) → n ≡ suc at → n ≤ length xs → IfSome (slice_get xs at) (λ x. b ≡ test x) → list_any test (drop at xs) ≡ (b || list_any test (drop n xs))
any_with test [] at n b step within says = absurd (omega (arith, step, within))
any_with test (x ∷ xs) zero n b step within says = rw (step, says) refl
any_with test (x ∷ xs) (suc at) n b step within says =
    any_with test xs at (suc at) b refl (omega (arith, step, within)) says ∙ ap (λ (k : ℕ). b || list_any test (drop k (x ∷ xs))) (sym step)

-- a test of what is made from a list
pub any_mapped : {X Y : Type 0} (f : X → Y) (test : Y → Bool) (xs : List X) → list_any (λ x. test (f x)) xs ≡ list_any test (map f xs)
any_mapped f test [] = refl
any_mapped f test (x ∷ xs) = ap (λ (b : Bool). test (f x) || b) (any_mapped f test xs)
