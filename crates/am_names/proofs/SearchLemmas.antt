-- What a search by halves tells of numbers that don't fall.
use Rattle.std.proofs.Common.{◌≡◌, ◌≢◌, ◌≤◌, ◌<◌, ℕ, zero, suc, Bool, true, false, List, [], ◌∷◌, length, get_or, Result, Ok, Err, Some, refl, sym, arith}
use Rattle.std.specs.Prelude.{is_ok, ◌==◌}
use Rattle.std.specs.Bool.{OnTrue}
use Rattle.std.specs.Ordering.{nat_cmp, is_le, is_some_and}
use Rattle.std.specs.List.{list_any, IsAllAdjacentAnswer}
use Rattle.std.specs.List.Sorted.{IsBinarySearchResult, IsNonDecreasing}
use Rattle.std.proofs.lemmas.List.Sorted.{searched, non_decreasing_from_is_sorted}
use Rattle.std.proofs.lemmas.Bool.{eq-eqb, ne_eqb}
use Rattle.am_names.proofs.Basics.{or_left, or_right}

among_at :
    (xs : List ℕ) (i x : ℕ) → i < length xs → get_or xs i 0 ≡ x → list_any (λ y. y == x) xs ≡ true
among_at [] i x within e = absurd (omega arith)
among_at (y ∷ xs) zero x within e = or_left (y == x) (list_any (λ z. z == x) xs) (eq-eqb y x e)
among_at (y ∷ xs) (suc i) x within e =
    or_right (y == x) (list_any (λ z. z == x) xs) (among_at xs i x (omega arith) e)

none_among :
    (xs : List ℕ) (x : ℕ) → ((k : ℕ) → k < length xs → get_or xs k 0 ≢ x) →
    list_any (λ y. y == x) xs ≡ false
none_among [] x others = refl
none_among (y ∷ xs) x others =
    rw (ne_eqb y x (others 0 (omega arith)))
    (none_among xs x (λ k within. others (suc k) (omega arith)))

-- what is found is one of the numbers
pub found_among :
    (xs : List ℕ) (x : ℕ) (r : Result ℕ ℕ) → IsBinarySearchResult (λ y. nat_cmp y x) xs r →
    IsNonDecreasing xs → is_ok r ≡ list_any (λ y. y == x) xs
found_among xs x (Ok i) position up =
    let found = searched xs x (Ok i) position (λ i j le lt. up i j 0 le lt) in
    sym (among_at xs i x found.0 found.1)
found_among xs x (Err i) position up =
    let none = searched xs x (Err i) position (λ i j le lt. up i j 0 le lt) in
    sym (none_among xs x (λ k within same.
    let before : k < i → get_or xs k 0 < x = none.1 k in
    let after : i ≤ k → x < get_or xs k 0 = λ le. none.2 k le within in
    grind (arith, before, after)))

-- numbers that a test finds sorted don't fall
pub sorted_ordered :
    (xs : List ℕ) (r : Bool) → IsAllAdjacentAnswer (λ x y b. is_some_and is_le (Some (nat_cmp x y)) ≡ b) xs r →
    OnTrue r (IsNonDecreasing xs)
sorted_ordered xs true h = non_decreasing_from_is_sorted xs true h
sorted_ordered xs false h = tt
