-- The index of the walkers that are inside mounts, and the counts of the mounts.
use Rattle.std.proofs.Common.{◌≡◌, ◌+◌, ◌<◌, ℕ, Bool, true, false, cond, ◌==◌, List, [], ◌∷◌, Some, None, refl, sym, ap, ◌∙◌, arith, nat_lt}
use Rattle.std.specs.Prelude.{nat_eq, map}
use Rattle.std.specs.List.{list_any}
use Rattle.std.specs.Map.{lookup}
use Rattle.std.proofs.lemmas.Bool.Decides.{nat_tests, Decides-eqb}
use Rattle.indexmap.specs.IndexMap.{insert_entry, shift_remove_entry}
use Rattle.am_expire.specs.{Use, mount_of_walker, use_count, entered, left, counted, CountsOneMore}
use Rattle.am_expire.specs.View.{use_of, IsSingle, AreCounts}
use Rattle.am_expire.proofs.UseLemmas.{unless_at, first_of, stays_all, count_first, enters_count, leaves_count}

flipped : (a b : ℕ) → nat_eq a b ≡ (b == a)
flipped a b = grind (arith, nat_tests)

-- ---- walkers

pub lookup_is : (walker : ℕ) (entries : List (ℕ × ℕ)) → lookup (nat_eq walker) entries ≡ mount_of_walker (map use_of entries) walker
lookup_is walker [] = refl
lookup_is walker (entry ∷ entries) =
    rw (flipped walker entry.0)
    ((elim (entry.0 == walker) as (λ b. cond b (Some entry.1) (lookup (nat_eq walker) entries) ≡ unless_at b (use_of entry) (mount_of_walker (map use_of entries) walker)) [
      | true ↦ refl
      | false ↦ lookup_is walker entries
    ])
    ∙ sym (first_of (use_of entry) (map use_of entries) walker))

pub left_is :
    (walker : ℕ) (entries : List (ℕ × ℕ)) → IsSingle (map use_of entries) →
    map use_of (shift_remove_entry (nat_eq walker) entries) ≡ left walker (map use_of entries)
left_is walker [] single = refl
left_is walker (entry ∷ entries) single =
    by_test (entry.0 == walker) refl (left_is walker entries single.1)
  where
    by_test :
        (b : Bool) → (entry.0 == walker) ≡ b →
        map use_of (shift_remove_entry (nat_eq walker) entries) ≡ left walker (map use_of entries) →
        map use_of (shift_remove_entry (nat_eq walker) (entry ∷ entries)) ≡ left walker (map use_of (entry ∷ entries))
    by_test true same later =
        let is : entry.0 ≡ walker = (Decides-eqb entry.0 walker).0 same in
        let free : mount_of_walker (map use_of entries) walker ≡ None = ap (mount_of_walker (map use_of entries)) (sym is) ∙ single.0 in
        rw (flipped walker entry.0, same) (sym (stays_all (map use_of entries) walker free))
    by_test false other later =
        rw (flipped walker entry.0, other) (ap (λ (rows : List Use). use_of entry ∷ rows) later)

-- a walker that has no entry gets the last one
pub inserted_last :
    (walker mount : ℕ) (entries : List (ℕ × ℕ)) → mount_of_walker (map use_of entries) walker ≡ None →
    map use_of (insert_entry nat_eq entries walker mount) ≡ entered walker mount (map use_of entries)
inserted_last walker mount [] none = refl
inserted_last walker mount (entry ∷ entries) none =
    by_test (entry.0 == walker) refl
    (sym (first_of (use_of entry) (map use_of entries) walker) ∙ none)
    (inserted_last walker mount entries)
  where
    by_test :
        (b : Bool) → (entry.0 == walker) ≡ b →
        unless_at b (use_of entry) (mount_of_walker (map use_of entries) walker) ≡ None →
        (mount_of_walker (map use_of entries) walker ≡ None → map use_of (insert_entry nat_eq entries walker mount) ≡ entered walker mount (map use_of entries)) →
        map use_of (insert_entry nat_eq (entry ∷ entries) walker mount) ≡ entered walker mount (map use_of (entry ∷ entries))
    by_test true same none later = absurd cc
    by_test false other none later =
        rw (flipped walker entry.0, other)
        (ap (λ (rows : List Use). use_of entry ∷ rows) (later none))

-- ---- counts

pub counts_entered :
    (walker mount : ℕ) (rows : List Use) (old new : List (ℕ × ℕ)) →
    AreCounts old rows → CountsOneMore mount old new → AreCounts new (entered walker mount rows)
counts_entered walker mount rows old new agree up m =
    up m ∙ ap (λ (n : ℕ). n + cond (mount == m) 1 0) (agree m)
    ∙ sym (enters_count rows (record { walker = walker; mount = mount }) m)

-- the same number less leaves the same
less_the_same : (a b c d k : ℕ) → a ≡ b → a ≡ c + k → b ≡ d + k → c ≡ d
less_the_same a b c d k e f g = omega (arith, e, f, g)

pub counts_left :
    (walker mount : ℕ) (rows : List Use) (old new : List (ℕ × ℕ)) → IsSingle rows →
    mount_of_walker rows walker ≡ Some mount → AreCounts old rows → CountsOneMore mount new old →
    AreCounts new (left walker rows)
counts_left walker mount rows old new single there agree down m =
    less_the_same (counted old m) (use_count rows m) (counted new m) (use_count (left walker rows) m)
    (cond (mount == m) 1 0) (agree m) (down m) (leaves_count rows walker mount single there m)

positive_where_one_more : (n k l : ℕ) → n ≡ k + l → l ≡ 1 → 0 < n
positive_where_one_more n k l e f = omega (arith, e, f)

-- where a walker is inside the mount, it has a count
pub counted_there :
    (walker mount : ℕ) (rows : List Use) (counts : List (ℕ × ℕ)) → IsSingle rows →
    mount_of_walker rows walker ≡ Some mount → AreCounts counts rows → 0 < counted counts mount
counted_there walker mount rows counts single there agree =
    positive_where_one_more (counted counts mount) (use_count (left walker rows) mount) (cond (mount == mount) 1 0)
    (agree mount ∙ leaves_count rows walker mount single there mount)
    (ap (λ (b : Bool). cond b 1 0) ((Decides-eqb mount mount).1 refl))

-- a use is counted
pub used_is : (rows : List Use) (mount : ℕ) → list_any (λ (row : Use). row.mount == mount) rows ≡ nat_lt 0 (use_count rows mount)
used_is [] mount = refl
used_is (row ∷ rows) mount = by_test (row.mount == mount) refl (used_is rows mount)
  where
    by_test : (b : Bool) → (row.mount == mount) ≡ b → list_any (λ (r : Use). r.mount == mount) rows ≡ nat_lt 0 (use_count rows mount) → list_any (λ (r : Use). r.mount == mount) (row ∷ rows) ≡ nat_lt 0 (use_count (row ∷ rows) mount)
    by_test true same later = rw (count_first row rows mount, same) (grind (arith, nat_tests))
    by_test false other later = rw (count_first row rows mount, other, later) (grind (arith, nat_tests))
