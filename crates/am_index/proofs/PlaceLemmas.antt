-- Where a number stands among numbers that rise.
use Rattle.std.proofs.Common.{◌≡◌, ◌≢◌, ◌≤◌, ◌<◌, ◌+◌, ◌-◌, ℕ, zero, suc, true, false, List, [], ◌∷◌, ◌++◌, length, take, drop, get_or, slice_get, Some, Ok, Err, refl, sym, ap, ◌∙◌, arith}
use Rattle.std.specs.Prelude.{filter, nat_lt}
use Rattle.std.specs.Ordering.{nat_cmp}
use Rattle.std.specs.List.{AllPairs}
use Rattle.std.specs.List.Sorted.{IsBinarySearchResult, IsStrictlyIncreasing}
use Rattle.std.proofs.lemmas.List.Kept.{AllPairs-from_increasing}
use Rattle.std.proofs.lemmas.List.Sorted.{searched}
use Rattle.std.proofs.lemmas.Bool.{eq-eqb, ne_eqb}
use Rattle.std.proofs.lemmas.Option.{get_or_from_slice_get, none-some}
use Rattle.std.proofs.lemmas.List.{append-nil}
use Rattle.std.proofs.Math.ListN.{drop_of_length-le}
use Rattle.std.proofs.lemmas.Bool.Decides.{nat_tests}
use Rattle.am_index.specs.{but, with}

but_absent :
    (m : ℕ) (xs : List ℕ) → ((k : ℕ) → k < length xs → get_or xs k 0 ≢ m) → but m xs ≡ xs
but_absent m [] others = refl
but_absent m (x ∷ xs) others =
    rw (ne_eqb x m (others 0 (omega arith)))
    (ap (λ (ys : List ℕ). x ∷ ys) (but_absent m xs (λ k within. others (suc k) (omega arith))))

but_at :
    (m : ℕ) (xs : List ℕ) → AllPairs (λ x y. x < y) xs →
    (i : ℕ) → i < length xs → get_or xs i 0 ≡ m → but m xs ≡ take i xs ++ drop (suc i) xs
but_at m [] up i within e = absurd (omega arith)
but_at m (x ∷ xs) up zero within e =
    rw (eq-eqb x m e)
    (but_absent m xs (λ k lt same.
    let less : x < get_or xs k 0 = up 0 (suc k) 0 (omega arith) (omega arith) in
    omega arith))
but_at m (x ∷ xs) up (suc i) within e =
    let less : x < get_or xs i 0 = up 0 (suc i) 0 (omega arith) (omega arith) in
    rw (ne_eqb x m (λ same. omega arith))
    (ap (λ (ys : List ℕ). x ∷ ys)
    (but_at m xs (λ j k d lt h. up (suc j) (suc k) d (omega arith) (omega arith)) i (omega arith) e))

-- those below it stand in front, and those above it behind
lower_front :
    (m : ℕ) (xs : List ℕ) (i : ℕ) → i ≤ length xs →
    ((k : ℕ) → k < i → get_or xs k 0 < m) →
    ((k : ℕ) → i ≤ k → k < length xs → m ≤ get_or xs k 0) →
    filter (λ x. nat_lt x m) xs ≡ take i xs
lower_front m [] zero within low high = refl
lower_front m [] (suc i) within low high = refl
lower_front m (x ∷ xs) zero within low high =
    let first : m ≤ x = high 0 (omega arith) (omega arith) in
    let not_less : nat_lt x m ≡ false = grind (arith, nat_tests) in
    rw not_less
    (lower_front m xs zero (omega arith) (λ k lt. absurd (omega arith))
    (λ k le lt. high (suc k) (omega arith) (omega arith)))
lower_front m (x ∷ xs) (suc i) within low high =
    let first : x < m = low 0 (omega arith) in
    let less : nat_lt x m ≡ true = grind (arith, nat_tests) in
    rw less
    (ap (λ (ys : List ℕ). x ∷ ys)
    (lower_front m xs i (omega arith) (λ k lt. low (suc k) (omega arith))
    (λ k le lt. high (suc k) (omega arith) (omega arith))))

higher_behind :
    (m : ℕ) (xs : List ℕ) (i : ℕ) → i ≤ length xs →
    ((k : ℕ) → k < i → get_or xs k 0 ≤ m) →
    ((k : ℕ) → i ≤ k → k < length xs → m < get_or xs k 0) →
    filter (λ x. nat_lt m x) xs ≡ drop i xs
higher_behind m [] zero within low high = refl
higher_behind m [] (suc i) within low high = refl
higher_behind m (x ∷ xs) zero within low high =
    let first : m < x = high 0 (omega arith) (omega arith) in
    let more : nat_lt m x ≡ true = grind (arith, nat_tests) in
    rw more
    (ap (λ (ys : List ℕ). x ∷ ys)
    (higher_behind m xs zero (omega arith) (λ k lt. absurd (omega arith))
    (λ k le lt. high (suc k) (omega arith) (omega arith))))
higher_behind m (x ∷ xs) (suc i) within low high =
    let first : x ≤ m = low 0 (omega arith) in
    let not_more : nat_lt m x ≡ false = grind (arith, nat_tests) in
    rw not_more
    (higher_behind m xs i (omega arith) (λ k lt. low (suc k) (omega arith))
    (λ k le lt. high (suc k) (omega arith) (omega arith)))

-- a list is its front, the number at a place, and what is behind
split_at :
    (xs : List ℕ) (i : ℕ) → i < length xs → xs ≡ take i xs ++ get_or xs i 0 ∷ drop (suc i) xs
split_at [] i within = absurd (omega arith)
split_at (x ∷ xs) zero within = refl
split_at (x ∷ xs) (suc i) within = ap (λ (ys : List ℕ). x ∷ ys) (split_at xs i (omega arith))

module _ (m : ℕ) (xs : List ℕ) (up : IsStrictlyIncreasing xs) where
  rises : (i j : ℕ) → i ≤ j → j < length xs → get_or xs i 0 ≤ get_or xs j 0
  rises i j le lt =
      let less = AllPairs-from_increasing xs up i j 0 in
      grind (arith, less, λ (same : i ≡ j). ap (λ (k : ℕ). get_or xs k 0) same)

  climbs : (i j : ℕ) → i < j → j < length xs → get_or xs i 0 < get_or xs j 0
  climbs i j lt within = AllPairs-from_increasing xs up i j 0 lt within

  -- where the search finds it, it is taken out
  pub but_found :
      (i : ℕ) → IsBinarySearchResult (λ y. nat_cmp y m) xs (Ok i) → but m xs ≡ take i xs ++ drop (suc i) xs
  but_found i position =
      let found = searched xs m (Ok i) position rises in
      but_at m xs (AllPairs-from_increasing xs up) i found.0 found.1

  -- where it finds none, the list has it not
  pub but_unfound : (i : ℕ) → IsBinarySearchResult (λ y. nat_cmp y m) xs (Err i) → but m xs ≡ xs
  but_unfound i position =
      let none = searched xs m (Err i) position rises in
      but_absent m xs (λ k within same.
      let before : k < i → get_or xs k 0 < m = none.1 k in
      let after : i ≤ k → m < get_or xs k 0 = λ le. none.2 k le within in
      grind (arith, before, after))

  -- and it is put at the place that the search tells
  pub with_unfound :
      (i : ℕ) → IsBinarySearchResult (λ y. nat_cmp y m) xs (Err i) → with m xs ≡ take i xs ++ m ∷ drop i xs
  with_unfound i position =
      let none = searched xs m (Err i) position rises in
      rw (
        lower_front m xs i none.0 none.1 (λ k le lt. let more : m < get_or xs k 0 = none.2 k le lt in omega arith),
        higher_behind m xs i none.0 (λ k lt. let less : get_or xs k 0 < m = none.1 k lt in omega arith) none.2,
      ) refl

  -- one that is there is so already
  pub with_found : (i : ℕ) → IsBinarySearchResult (λ y. nat_cmp y m) xs (Ok i) → with m xs ≡ xs
  with_found i position =
      let found = searched xs m (Ok i) position rises in
      let within : i < length xs = found.0 in
      let here : get_or xs i 0 ≡ m = found.1 in
      let front = lower_front m xs i (omega arith)
      (λ k lt. let less : get_or xs k 0 < get_or xs i 0 = climbs k i lt within in omega arith)
      (λ k le lt. let more : get_or xs i 0 ≤ get_or xs k 0 = rises i k le lt in omega arith) in
      let behind = higher_behind m xs (suc i) (omega arith)
      (λ k lt. let less : get_or xs k 0 ≤ get_or xs i 0 = rises k i (omega arith) within in omega arith)
      (λ k le lt. let more : get_or xs i 0 < get_or xs k 0 = climbs i k (omega arith) lt in omega arith) in
      rw (front, behind) (ap (λ (x : ℕ). take i xs ++ x ∷ drop (suc i) xs) (sym here) ∙ sym (split_at xs i within))

greatest_at :
    (m : ℕ) (xs : List ℕ) → IsStrictlyIncreasing xs → (i : ℕ) → i + 1 ≡ length xs → get_or xs i 0 ≡ m →
    but m xs ≡ take i xs
greatest_at m xs up i end found =
    but_at m xs (AllPairs-from_increasing xs up) i (omega arith) found ∙
    ap (λ (ys : List ℕ). take i xs ++ ys) (drop_of_length-le xs {i = suc i} (omega arith)) ∙
    append-nil (take i xs)

-- the greatest stands at the end
pub but_greatest :
    (m : ℕ) (xs : List ℕ) → IsStrictlyIncreasing xs → slice_get xs (length xs - 1) ≡ Some m →
    but m xs ≡ take (length xs - 1) xs
but_greatest m [] up e = absurd (none-some m e)
but_greatest m (x ∷ xs) up e =
    let at = length (x ∷ xs) - 1 in
    greatest_at m (x ∷ xs) up at (omega arith) (get_or_from_slice_get (x ∷ xs) at m 0 e)
