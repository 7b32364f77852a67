-- How often numbers stand in lists.
use Rattle.std.proofs.Common.{◌≡◌, ◌≤◌, ◌<◌, ◌+◌, ℕ, zero, suc, Bool, true, false, cond, ◌||◌, List, [], ◌∷◌, ◌++◌, length, get_or, Option, Some, None, refl, sym, ap, subst, ◌∙◌, arith}
use Rattle.std.specs.Prelude.{filter, not, ◌==◌}
use Rattle.std.specs.List.{list_any, sum_by}
use Rattle.std.specs.List.Sorted.{IsNonDecreasing, IsPermutation, IsStrictlyIncreasing}
use Rattle.std.proofs.lemmas.Bool.{eqb-true, eq-eqb, ne_eqb}
use Rattle.std.proofs.lemmas.Bool.Decides.{nat_tests}
use Rattle.std.proofs.lemmas.List.Sums.{sum_by-cons}
use Rattle.std.proofs.lemmas.List.Sorted.{sum_by-IsPermutation}
use Rattle.std.proofs.lemmas.List.Kept.{AllPairs-from_increasing}
use Rattle.am_names.specs.{RiseBy, is_among}
use Rattle.am_index.specs.{numbered}
use Rattle.am_index.proofs.RowLemmas.{numbered_cons, row_of}
use Rattle.am_group.specs.{count}

pub count-append : (x : ℕ) (xs ys : List ℕ) → count x (xs ++ ys) ≡ count x xs + count x ys
count-append x [] ys = omega arith
count-append x (y ∷ xs) ys = go (x == y) (count-append x xs ys)
  where
    go :
        (b : Bool) → count x (xs ++ ys) ≡ count x xs + count x ys →
        cond b (suc (count x (xs ++ ys))) (count x (xs ++ ys)) ≡ cond b (suc (count x xs)) (count x xs) + count x ys
    go true ih = omega arith
    go false ih = omega arith

pub count_self : (x : ℕ) → count x (x ∷ []) ≡ 1
count_self x = rw (eq-eqb x x refl) refl

pub count_one : (x g : ℕ) → 1 ≤ count x (g ∷ []) → x ≡ g
count_one x g h = go (x == g) refl h
  where
    go : (b : Bool) → (x == g) ≡ b → 1 ≤ cond b 1 0 → x ≡ g
    go true e i = eqb-true x g e
    go false e i = absurd (omega arith)

-- of those that a test keeps
pub count-filter : (p : ℕ → Bool) (x : ℕ) (xs : List ℕ) → count x (filter p xs) ≡ cond (p x) (count x xs) 0
count-filter p x [] = go (p x)
  where
    go : (b : Bool) → zero ≡ cond b zero zero
    go true = refl
    go false = refl
count-filter p x (y ∷ ys) = go (p y) (x == y) refl refl (count-filter p x ys)
  where
    go :
        (a b : Bool) → p y ≡ a → (x == y) ≡ b → count x (filter p ys) ≡ cond (p x) (count x ys) 0 →
        count x (cond a (y ∷ filter p ys) (filter p ys)) ≡ cond (p x) (cond b (suc (count x ys)) (count x ys)) 0
    go true true e f ih =
        let kept : p x ≡ true = ap p (eqb-true x y f) ∙ e in
        rw (f, kept) (let rest : count x (filter p ys) ≡ count x ys = rw kept at ih in omega arith)
    go true false e f ih = rw f ih
    go false true e f ih =
        let kept : p x ≡ false = ap p (eqb-true x y f) ∙ e in
        rw kept (rw kept at ih)
    go false false e f ih = ih

-- a list in another order
pub count_permuted : (x : ℕ) (xs ys : List ℕ) → IsPermutation xs ys → count x ys ≡ count x xs
count_permuted x xs ys moves = summed ys ∙ sum_by-IsPermutation one xs ys moves ∙ sym (summed xs)
  where
    one : ℕ → ℕ
    one y = cond (x == y) 1 0

    summed : (zs : List ℕ) → count x zs ≡ sum_by (λ y. cond (x == y) 1 0) zs
    summed [] = refl
    summed (z ∷ zs) = go (x == z) (summed zs) ∙ sym (sum_by-cons (λ y. cond (x == y) 1 0) z zs)
      where
        go :
            (b : Bool) → count x zs ≡ sum_by (λ y. cond (x == y) 1 0) zs →
            cond b (suc (count x zs)) (count x zs) ≡ cond b 1 0 + sum_by (λ y. cond (x == y) 1 0) zs
        go true e = omega arith
        go false e = omega arith

-- what stands in a list that doesn't fall is no lower than the first
stands_at : (c : ℕ) (xs : List ℕ) → 1 ≤ count c xs → (i : ℕ) × (i < length xs) × (get_or xs i 0 ≡ c)
stands_at c [] some = absurd (omega arith)
stands_at c (x ∷ xs) some = go (c == x) refl some (stands_at c xs)
  where
    go :
        (b : Bool) → (c == x) ≡ b → 1 ≤ cond b (suc (count c xs)) (count c xs) →
        (1 ≤ count c xs → (i : ℕ) × (i < length xs) × (get_or xs i 0 ≡ c)) →
        (i : ℕ) × (i < length (x ∷ xs)) × (get_or (x ∷ xs) i 0 ≡ c)
    go true e some ih = (0, omega arith, sym (eqb-true c x e))
    go false e some ih =
        let rest = ih some in
        let within : rest.0 < length xs = rest.1 in
        (suc rest.0, omega arith, rest.2)

no_lower : (c x : ℕ) (xs : List ℕ) → IsNonDecreasing (x ∷ xs) → 1 ≤ count c (x ∷ xs) → x ≤ c
no_lower c x xs up some =
    let at = stands_at c (x ∷ xs) some in
    let le : x ≤ get_or (x ∷ xs) at.0 0 = up 0 at.0 0 (omega arith) at.1 in
    let is : get_or (x ∷ xs) at.0 0 ≡ c = at.2 in
    omega arith

first_there : (x : ℕ) (xs : List ℕ) → 1 ≤ count x (x ∷ xs)
first_there x xs = rw (eq-eqb x x refl) (omega arith)

-- two lists that don't fall are one where each number stands as often in both
pub same_counts :
    (xs ys : List ℕ) → IsNonDecreasing xs → IsNonDecreasing ys → ((c : ℕ) → count c xs ≡ count c ys) → xs ≡ ys
same_counts [] [] up also same = refl
same_counts [] (y ∷ ys) up also same =
    let some = first_there y ys in
    let none : 0 ≡ count y (y ∷ ys) = same y in
    absurd (omega arith)
same_counts (x ∷ xs) [] up also same =
    let some = first_there x xs in
    let none : count x (x ∷ xs) ≡ 0 = same x in
    absurd (omega arith)
same_counts (x ∷ xs) (y ∷ ys) up also same =
    let first = first_there x xs in
    let other = first_there y ys in
    let is = same x in
    let are = same y in
    let le : x ≤ y = no_lower y x xs up (omega arith) in
    let ge : y ≤ x = no_lower x y ys also (omega arith) in
    let equal : x ≡ y = omega arith in
    ap (λ (z : ℕ). z ∷ xs) equal ∙
    ap (λ (zs : List ℕ). y ∷ zs)
    (same_counts xs ys
    (λ i j d before within. up (suc i) (suc j) d (omega arith) (omega arith))
    (λ i j d before within. also (suc i) (suc j) d (omega arith) (omega arith))
    (λ c. tails c equal (same c)))
  where
    tails :
        (c : ℕ) → x ≡ y →
        cond (c == x) (suc (count c xs)) (count c xs) ≡ cond (c == y) (suc (count c ys)) (count c ys) →
        count c xs ≡ count c ys
    tails c equal e = either (c == x) (subst (λ (z : ℕ). cond (c == x) (suc (count c xs)) (count c xs) ≡ cond (c == z) (suc (count c ys)) (count c ys)) (sym equal) e)
      where
        either : (b : Bool) → cond b (suc (count c xs)) (count c xs) ≡ cond b (suc (count c ys)) (count c ys) → count c xs ≡ count c ys
        either true e = omega arith
        either false e = e

-- once where the row passes
abbrev pub tally : {R : Type 0} → (R → Bool) → Option R → ℕ
tally test None = 0
tally test (Some row) = cond (test row) 1 0

-- the numbers of rows that rise: each once, where its row passes
module _ {R : Type 0} (number : R → ℕ) (t : R → Bool) where
  none_counted :
      (c low : ℕ) (rows : List R) → RiseBy number low rows → c < low → count c (numbered number t rows) ≡ 0
  none_counted c low [] rises lower = refl
  none_counted c low (r ∷ rows) rises lower =
      let first : low ≤ number r = rises.0 in
      ap (count c) (numbered_cons number t r rows) ∙
      go (t r) (ne_eqb c (number r) (λ same. omega arith)) (none_counted c (number r + 1) rows rises.1 (omega arith))
    where
      go :
          (b : Bool) → (c == number r) ≡ false → count c (numbered number t rows) ≡ 0 →
          count c (cond b (number r ∷ numbered number t rows) (numbered number t rows)) ≡ 0
      go true e ih = rw e ih
      go false e ih = ih

  pub numbered_counted :
      (c low : ℕ) (rows : List R) → RiseBy number low rows →
      count c (numbered number t rows) ≡ tally t (row_of number rows c)
  numbered_counted c low [] rises = refl
  numbered_counted c low (r ∷ rows) rises =
      ap (count c) (numbered_cons number t r rows) ∙
      go (number r == c) refl (numbered_counted c (number r + 1) rows rises.1)
    where
      here : List ℕ
      here = numbered number t rows

      hit : (b : Bool) → (c == number r) ≡ true → count c here ≡ 0 → count c (cond b (number r ∷ here) here) ≡ cond b 1 0
      hit true e none = rw (e, none) refl
      hit false e none = none

      miss :
          (b : Bool) → (c == number r) ≡ false → (n : ℕ) → count c here ≡ n →
          count c (cond b (number r ∷ here) here) ≡ n
      miss true e n ih = rw e ih
      miss false e n ih = ih

      go :
          (b : Bool) → (number r == c) ≡ b → count c here ≡ tally t (row_of number rows c) →
          count c (cond (t r) (number r ∷ here) here) ≡ tally t (cond b (Some r) (row_of number rows c))
      go true e ih =
          let same : number r ≡ c = eqb-true (number r) c e in
          hit (t r) (eq-eqb c (number r) (sym same)) (none_counted c (number r + 1) rows rises.1 (omega arith))
      go false e ih =
          miss (t r) (ne_eqb c (number r) (λ same. let bad : true ≡ false = sym (eq-eqb (number r) c (sym same)) ∙ e in absurd cc)) _ ih

-- a number that stands in a list that rises stands there once
pub count_among : (xs : List ℕ) → IsStrictlyIncreasing xs → (c : ℕ) → count c xs ≡ cond (is_among xs c) 1 0
count_among xs up c = by_order xs (λ i j less within. AllPairs-from_increasing xs up i j 0 less within)
  where
    absent : (x : ℕ) (ys : List ℕ) → ((j : ℕ) → j < length ys → x < get_or ys j 0) → (d : ℕ) → d ≤ x → count d ys ≡ 0
    absent x ys above d le = none (count d ys) refl
      where
        none : (n : ℕ) → count d ys ≡ n → count d ys ≡ 0
        none zero e = e
        none (suc n) e =
            let at = stands_at d ys (omega arith) in
            let more : x < get_or ys at.0 0 = above at.0 at.1 in
            let is : get_or ys at.0 0 ≡ d = at.2 in
            absurd (omega arith)

    by_order :
        (ys : List ℕ) → ((i j : ℕ) → i < j → j < length ys → get_or ys i 0 < get_or ys j 0) →
        count c ys ≡ cond (is_among ys c) 1 0
    by_order [] up = refl
    by_order (y ∷ ys) up =
        go (c == y) (y == c) refl refl (by_order ys (λ i j less within. up (suc i) (suc j) (omega arith) (omega arith)))
        (absent y ys (λ j within. up 0 (suc j) (omega arith) (omega arith)))
      where
        go :
            (a b : Bool) → (c == y) ≡ a → (y == c) ≡ b → count c ys ≡ cond (is_among ys c) 1 0 →
            ((d : ℕ) → d ≤ y → count d ys ≡ 0) →
            cond a (suc (count c ys)) (count c ys) ≡ cond (b || is_among ys c) 1 0
        go true true e f ih none =
            let same : c ≡ y = eqb-true c y e in
            let zero_more : count c ys ≡ 0 = none c (omega arith) in
            omega arith
        go false false e f ih none = ih
        go true false e f ih none =
            let same : c ≡ y = eqb-true c y e in
            let bad : (y == c) ≡ true = eq-eqb y c (sym same) in absurd cc
        go false true e f ih none =
            let same : y ≡ c = eqb-true y c f in
            let bad : (c == y) ≡ true = eq-eqb c y (sym same) in absurd cc

-- where some row passes there are numbers
pub any_numbered :
    {R : Type 0} (number : R → ℕ) (t : R → Bool) (rows : List R) →
    not (length (numbered number t rows) == 0) ≡ list_any t rows
any_numbered number t [] = refl
any_numbered {R} number t (r ∷ rows) =
    ap (λ (xs : List ℕ). not (length xs == 0)) (numbered_cons number t r rows) ∙ go (t r) (any_numbered number t rows)
  where
    go :
        (b : Bool) → not (length (numbered number t rows) == 0) ≡ list_any t rows →
        not (length (cond b (number r ∷ numbered number t rows) (numbered number t rows)) == 0) ≡ (b || list_any t rows)
    go true ih = grind (arith, nat_tests)
    go false ih = ih
