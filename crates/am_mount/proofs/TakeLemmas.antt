-- What is taken out of numbers that rise.
use Rattle.std.proofs.Common.{◌≡◌, ◌≢◌, ◌≤◌, ◌<◌, ◌+◌, ◌-◌, ℕ, zero, suc, List, [], ◌∷◌, ◌++◌, length, take, drop, get_or, slice_get, Some, Ok, Err, refl, ap, ◌∙◌, arith}
use Rattle.std.specs.Ordering.{nat_cmp}
use Rattle.std.specs.List.{AllPairs}
use Rattle.std.specs.List.Sorted.{IsBinarySearchResult, IsStrictlyIncreasing}
use Rattle.std.proofs.lemmas.List.Kept.{AllPairs-from_increasing}
use Rattle.std.proofs.lemmas.List.Sorted.{searched}
use Rattle.std.proofs.lemmas.Bool.{eq-eqb, ne_eqb}
use Rattle.std.proofs.lemmas.Option.{get_or_from_slice_get, none-some}
use Rattle.std.proofs.lemmas.List.{append-nil}
use Rattle.std.proofs.Math.ListN.{drop_of_length-le}
use Rattle.am_mount.specs.{but}

pub but_absent :
    (m : ℕ) (xs : List ℕ) → ((k : ℕ) → k < length xs → get_or xs k 0 ≢ m) → but m xs ≡ xs
but_absent m [] others = refl
but_absent m (x ∷ xs) others =
    rw (ne_eqb x m (others 0 (omega arith)))
    (ap (λ (ys : List ℕ). x ∷ ys) (but_absent m xs (λ k within. others (suc k) (omega arith))))

but_at :
    (m : ℕ) (xs : List ℕ) → AllPairs (λ x y. x < y) xs →
    (i : ℕ) → i < length xs → get_or xs i 0 ≡ m → but m xs ≡ take i xs ++ drop (suc i) xs
but_at m [] up i within e = absurd (omega arith)
but_at m (x ∷ xs) up zero within e =
    rw (eq-eqb x m e)
    (but_absent m xs (λ k lt same.
    let less : x < get_or xs k 0 = up 0 (suc k) 0 (omega arith) (omega arith) in
    omega arith))
but_at m (x ∷ xs) up (suc i) within e =
    let less : x < get_or xs i 0 = up 0 (suc i) 0 (omega arith) (omega arith) in
    rw (ne_eqb x m (λ same. omega arith))
    (ap (λ (ys : List ℕ). x ∷ ys)
    (but_at m xs (λ j k d lt h. up (suc j) (suc k) d (omega arith) (omega arith)) i (omega arith) e))

module _ (m : ℕ) (xs : List ℕ) (up : IsStrictlyIncreasing xs) where
  pub rises : (i j : ℕ) → i ≤ j → j < length xs → get_or xs i 0 ≤ get_or xs j 0
  rises i j le lt =
      let less = AllPairs-from_increasing xs up i j 0 in
      grind (arith, less, λ (same : i ≡ j). ap (λ (k : ℕ). get_or xs k 0) same)

  -- where the search finds it, it is taken out
  pub but_found :
      (i : ℕ) → IsBinarySearchResult (λ y. nat_cmp y m) xs (Ok i) → but m xs ≡ take i xs ++ drop (suc i) xs
  but_found i position =
      let found = searched xs m (Ok i) position rises in
      but_at m xs (AllPairs-from_increasing xs up) i found.0 found.1

  -- where it finds none, the list has it not
  pub but_unfound : (i : ℕ) → IsBinarySearchResult (λ y. nat_cmp y m) xs (Err i) → but m xs ≡ xs
  but_unfound i position =
      let none = searched xs m (Err i) position rises in
      but_absent m xs (λ k within same.
      let before : k < i → get_or xs k 0 < m = none.1 k in
      let after : i ≤ k → m < get_or xs k 0 = λ le. none.2 k le within in
      grind (arith, before, after))

greatest_at :
    (m : ℕ) (xs : List ℕ) → IsStrictlyIncreasing xs → (i : ℕ) → i + 1 ≡ length xs → get_or xs i 0 ≡ m →
    but m xs ≡ take i xs
greatest_at m xs up i end found =
    but_at m xs (AllPairs-from_increasing xs up) i (omega arith) found ∙
    ap (λ (ys : List ℕ). take i xs ++ ys) (drop_of_length-le xs {i = suc i} (omega arith)) ∙
    append-nil (take i xs)

-- the greatest stands at the end
pub but_greatest :
    (m : ℕ) (xs : List ℕ) → IsStrictlyIncreasing xs → slice_get xs (length xs - 1) ≡ Some m →
    but m xs ≡ take (length xs - 1) xs
but_greatest m [] up e = absurd (none-some m e)
but_greatest m (x ∷ xs) up e =
    let at = length (x ∷ xs) - 1 in
    greatest_at m (x ∷ xs) up at (omega arith) (get_or_from_slice_get (x ∷ xs) at m 0 e)
