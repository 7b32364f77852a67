-- A row that goes, and another that stands further up or further down in its place.
use Rattle.std.proofs.Common.{◌≡◌, ◌<◌, ◌≤◌, ◌+◌, ◌-◌, ℕ, Bool, true, false, cond, nat_lt, List, length, get_or, refl, ap, arith}
use Rattle.std.specs.Prelude.{Contains}
use Rattle.std.specs.List.{count_by, insert, remove}
use Rattle.std.specs.List.Sorted.{IsSorted}
use Rattle.std.proofs.lemmas.Bool.Decides.{nat_tests}
use Rattle.std.proofs.lemmas.List.Edits.{length-remove, get_or-remove_below, get_or-remove_above}
use Rattle.std.proofs.lemmas.List.Sums.{sum_by-insert, sum_by-remove}
use Rattle.am_names.specs.declared.trigger.Trigger.{Trigger}
use Rattle.am_expire.specs.{use_cmp}
use Rattle.am_expire.proofs.OrderLemmas.{IsRank, is_before, stands, sorted_insert, sorted_remove}

-- where a row behind the one that goes is to stand, once that is gone
rank_less :
    (rows : List (Trigger × ℕ)) (other : Trigger × ℕ) (from to : ℕ) → from < to → to ≤ length rows →
    IsRank rows other to → IsRank (remove rows from) other (to - 1)
rank_less rows other from to up within parts = (
  λ k d low high. before k d high (nat_lt k from) refl,
  λ k d low high.
      let e = length-remove rows from (omega arith) in
      rw (get_or-remove_above rows from d k (omega arith) (omega arith))
      (parts.1 (k + 1) d (omega arith) (omega arith)),
)
  where
    before :
        (k : ℕ) (d : Trigger × ℕ) → k < to - 1 → (b : Bool) → nat_lt k from ≡ b →
        is_before (get_or (remove rows from) k d) other ≡ true
    before k d high true p =
        let lt : k < from = grind (arith, nat_tests) in
        rw (get_or-remove_below rows from d k lt (omega arith)) (parts.0 k d (omega arith) (omega arith))
    before k d high false p =
        let ge : from ≤ k = grind (arith, nat_tests) in
        rw (get_or-remove_above rows from d k ge (omega arith)) (parts.0 (k + 1) d (omega arith) (omega arith))

-- a row before the one that goes is to stand where it would
rank_same :
    (rows : List (Trigger × ℕ)) (other : Trigger × ℕ) (from to : ℕ) → to ≤ from → from < length rows →
    IsRank rows other to → IsRank (remove rows from) other to
rank_same rows other from to down within parts = (
  λ k d low high. rw (get_or-remove_below rows from d k (omega arith) within) (parts.0 k d (omega arith) (omega arith)),
  λ k d low high. behind k d low high (nat_lt k from) refl,
)
  where
    behind :
        (k : ℕ) (d : Trigger × ℕ) → to ≤ k → k < length (remove rows from) → (b : Bool) → nat_lt k from ≡ b →
        is_before (get_or (remove rows from) k d) other ≡ false
    behind k d low high true p =
        let lt : k < from = grind (arith, nat_tests) in
        rw (get_or-remove_below rows from d k lt within) (parts.1 k d low (omega arith))
    behind k d low high false p =
        let ge : from ≤ k = grind (arith, nat_tests) in
        let e = length-remove rows from within in
        rw (get_or-remove_above rows from d k ge within) (parts.1 (k + 1) d (omega arith) (omega arith))

-- the rows rise after the one has gone and the other has come
pub exchange_rises :
    (rows : List (Trigger × ℕ)) (other : Trigger × ℕ) (from to : ℕ) → IsSorted use_cmp rows →
    from < length rows → to ≤ length rows → IsRank rows other to →
    IsSorted use_cmp (insert (remove rows from) (cond (nat_lt from to) (to - 1) to) other)
exchange_rises rows other from to rising here within rank = by_test (nat_lt from to) refl
  where
    left : length (remove rows from) + 1 ≡ length rows
    left = length-remove rows from here

    by_test : (b : Bool) → nat_lt from to ≡ b → IsSorted use_cmp (insert (remove rows from) (cond b (to - 1) to) other)
    by_test true p =
        let up : from < to = grind (arith, nat_tests) in
        sorted_insert (remove rows from) (to - 1) other (sorted_remove rows from here rising) (omega (arith, left)) (rank_less rows other from to up within rank)
    by_test false p =
        let down : to ≤ from = grind (arith, nat_tests) in
        sorted_insert (remove rows from) to other (sorted_remove rows from here rising) (omega (arith, left)) (rank_same rows other from to down here rank)

-- the other row is there in the place of the one
pub exchange_counts :
    (rows : List (Trigger × ℕ)) (row other : Trigger × ℕ) (from at : ℕ) →
    from < length rows → get_or rows from row ≡ row → (test : Trigger × ℕ → Bool) →
    count_by test (insert (remove rows from) at other) + cond (test row) 1 0 ≡ count_by test rows + cond (test other) 1 0
exchange_counts rows row other from at here stands_there test =
    let f : Trigger × ℕ → ℕ = λ (x : Trigger × ℕ). cond (test x) 1 0 in
    let gone = sum_by-remove f rows from row here in
    let is : f (get_or rows from row) ≡ f row = ap f stands_there in
    let put = sum_by-insert f (remove rows from) at other in
    omega (arith, gone, is, put)
