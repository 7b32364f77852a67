-- Lists that rise, by the numbers that they hold.
use Rattle.std.proofs.Common.{◌≡◌, ◌≤◌, ◌<◌, ◌+◌, ℕ, zero, suc, Bool, true, false, cond, not, ◌&&◌, ◌||◌, List, [], ◌∷◌, ◌++◌, length, get_or, Option, Some, None, add-one, refl, sym, ap, subst, ◌∙◌, arith}
use Rattle.std.specs.Prelude.{filter, nat_lt, ◌==◌}
use Rattle.std.specs.List.{AllPairs}
use Rattle.std.specs.List.Sorted.{IsStrictlyIncreasing}
use Rattle.std.proofs.lemmas.List.Kept.{AllPairs-from_increasing, IsStrictlyIncreasing-filter}
use Rattle.std.proofs.lemmas.Bool.{eqb-true, eq-eqb}
use Rattle.std.proofs.lemmas.Bool.Decides.{nat_tests}
use Rattle.am_names.proofs.Basics.{and_false, both_of_and, or_left, or_right, or_false, or_assoc}
use Rattle.am_names.specs.{RiseBy, is_among}
use Rattle.am_index.specs.{but, numbered, with}
use Rattle.am_index.proofs.RowLemmas.{row_of, numbered_cons, above_none}

-- each number is below the next, and none is below this one
abbrev pub Up : ℕ → List ℕ → Type 0
Up low xs = RiseBy (λ (x : ℕ). x) low xs

up_from :
    (low : ℕ) (xs : List ℕ) → AllPairs (λ x y. x < y) xs → ((k : ℕ) → k < length xs → low ≤ get_or xs k 0) → Up low xs
up_from low [] pairs least = tt
up_from low (x ∷ xs) pairs least = (
  least 0 (omega arith),
  up_from (x + 1) xs (λ j k d lt within. pairs (suc j) (suc k) d (omega arith) (omega arith)) (λ k within.
      let less : x < get_or xs k 0 = pairs 0 (suc k) 0 (omega arith) (omega arith) in
      omega arith),
)

pub up_of : (xs : List ℕ) → IsStrictlyIncreasing xs → Up 0 xs
up_of xs rises = up_from 0 xs (AllPairs-from_increasing xs rises) (λ k within. omega arith)

pub up_rises : (low : ℕ) (xs : List ℕ) → Up low xs → IsStrictlyIncreasing xs
up_rises low [] up = λ k h. absurd (omega arith)
up_rises low (x ∷ []) up = λ k h. absurd (omega arith)
up_rises low (x ∷ y ∷ xs) up = go (up_rises (x + 1) (y ∷ xs) up.1)
  where
    go : IsStrictlyIncreasing (y ∷ xs) → IsStrictlyIncreasing (x ∷ y ∷ xs)
    go ih zero h = let lower : x + 1 ≤ y = up.1.0 in omega arith
    go ih (suc k) h = rw (add-one) (rw (add-one) at (ih k (omega arith)))

-- what a list holds is not below its first number
pub among_least : (low : ℕ) (xs : List ℕ) → Up low xs → (x : ℕ) → is_among xs x ≡ true → low ≤ x
among_least low [] up x e = absurd cc
among_least low (y ∷ ys) up x e = go (y == x) refl e (among_least (y + 1) ys up.1 x)
  where
    go : (b : Bool) → (y == x) ≡ b → (b || is_among ys x) ≡ true → (is_among ys x ≡ true → y + 1 ≤ x) → low ≤ x
    go true f e ih = let first : low ≤ y = up.0 in let same : y ≡ x = eqb-true y x f in omega arith
    go false f e ih = let first : low ≤ y = up.0 in let later : y + 1 ≤ x = ih e in omega arith

among_below : (low : ℕ) (xs : List ℕ) → Up low xs → (x : ℕ) → x < low → is_among xs x ≡ false
among_below low xs up x less = go (is_among xs x) refl
  where
    go : (b : Bool) → is_among xs x ≡ b → b ≡ false
    go true e = let le : low ≤ x = among_least low xs up x e in absurd (omega arith)
    go false e = refl

up_raise :
    (low least : ℕ) (xs : List ℕ) → Up low xs → ((x : ℕ) → is_among xs x ≡ true → least ≤ x) → Up least xs
up_raise low least [] up all = tt
up_raise low least (x ∷ xs) up all = (all x (or_left (x == x) (is_among xs x) (eq-eqb x x refl)), up.1)

-- two lists that rise and hold the same are the same
same_up : (low : ℕ) (xs ys : List ℕ) → Up low xs → Up low ys → ((x : ℕ) → is_among xs x ≡ is_among ys x) → xs ≡ ys
same_up low [] [] a b same = refl
same_up low [] (y ∷ ys) a b same =
    let bad : false ≡ true = same y ∙ or_left (y == y) (is_among ys y) (eq-eqb y y refl) in
    absurd cc
same_up low (x ∷ xs) [] a b same =
    let bad : false ≡ true = sym (same x) ∙ or_left (x == x) (is_among xs x) (eq-eqb x x refl) in
    absurd cc
same_up low (x ∷ xs) (y ∷ ys) a b same =
    let up : y ≤ x = among_least y (y ∷ ys) (omega arith, b.1) x (sym (same x) ∙ or_left (x == x) (is_among xs x) (eq-eqb x x refl)) in
    let down : x ≤ y = among_least x (x ∷ xs) (omega arith, a.1) y (same y ∙ or_left (y == y) (is_among ys y) (eq-eqb y y refl)) in
    let first : x ≡ y = omega arith in
    ap (λ (z : ℕ). z ∷ xs) first ∙
    ap (λ (zs : List ℕ). y ∷ zs)
    (same_up (x + 1) xs ys a.1 (subst (λ (z : ℕ). Up (z + 1) ys) (sym first) b.1)
    (λ z. rest first z (x == z) refl (same z)))
  where
    rest :
        x ≡ y → (z : ℕ) (c : Bool) → (x == z) ≡ c → (c || is_among xs z) ≡ ((y == z) || is_among ys z) →
        is_among xs z ≡ is_among ys z
    rest first z true e both =
        let here : x ≡ z = eqb-true x z e in
        among_below (x + 1) xs a.1 z (omega arith) ∙ sym (among_below (y + 1) ys b.1 z (omega arith))
    rest first z false e both =
        both ∙ ap (λ (c : Bool). c || is_among ys z) (ap (λ (w : ℕ). w == z) (sym first) ∙ e)

pub same_held :
    (xs ys : List ℕ) → IsStrictlyIncreasing xs → IsStrictlyIncreasing ys →
    ((x : ℕ) → is_among xs x ≡ is_among ys x) → xs ≡ ys
same_held xs ys a b same = same_up 0 xs ys (up_of xs a) (up_of ys b) same

pub among_append : (xs ys : List ℕ) (x : ℕ) → is_among (xs ++ ys) x ≡ (is_among xs x || is_among ys x)
among_append [] ys x = refl
among_append (y ∷ xs) ys x =
    ap (λ (b : Bool). (y == x) || b) (among_append xs ys x) ∙ or_assoc (y == x) (is_among xs x) (is_among ys x)

pub among_filter : (p : ℕ → Bool) (xs : List ℕ) (x : ℕ) → is_among (filter p xs) x ≡ (is_among xs x && p x)
among_filter p [] x = refl
among_filter p (y ∷ ys) x = go (y == x) refl (p y) refl (among_filter p ys x)
  where
    go :
        (b : Bool) → (y == x) ≡ b → (c : Bool) → p y ≡ c → is_among (filter p ys) x ≡ (is_among ys x && p x) →
        is_among (cond c (y ∷ filter p ys) (filter p ys)) x ≡ ((b || is_among ys x) && p x)
    go true e true f ih =
        let own : p x ≡ true = ap p (sym (eqb-true y x e)) ∙ f in
        rw (e, own) refl
    go true e false f ih =
        let own : p x ≡ false = ap p (sym (eqb-true y x e)) ∙ f in
        ih ∙ rw own (and_false (is_among ys x))
    go false e true f ih = rw e ih
    go false e false f ih = ih

-- a list with one more holds that one too
pub with_has : (m : ℕ) (xs : List ℕ) (x : ℕ) → is_among (with m xs) x ≡ (is_among xs x || (m == x))
with_has m xs x =
    among_append (filter (λ y. nat_lt y m) xs) (m ∷ filter (λ y. nat_lt m y) xs) x ∙
    ap (λ (b : Bool). b || ((m == x) || is_among (filter (λ y. nat_lt m y) xs) x)) (among_filter (λ y. nat_lt y m) xs x) ∙
    ap (λ (b : Bool). (is_among xs x && nat_lt x m) || ((m == x) || b)) (among_filter (λ y. nat_lt m y) xs x) ∙
    go (is_among xs x) (m == x) refl (nat_lt x m) refl (nat_lt m x) refl
  where
    go :
        (a b : Bool) → (m == x) ≡ b → (c : Bool) → nat_lt x m ≡ c → (d : Bool) → nat_lt m x ≡ d →
        ((a && c) || (b || (a && d))) ≡ (a || b)
    go false b e c f d g = or_false b
    go true true e true f d g = refl
    go true true e false f d g = refl
    go true false e true f d g = refl
    go true false e false f true g = refl
    go true false e false f false g = let bad : nat_lt m x ≡ true = grind (arith, nat_tests) in absurd cc

up_append :
    (low m : ℕ) (xs ys : List ℕ) → low ≤ m → Up low xs → ((x : ℕ) → is_among xs x ≡ true → x < m) → Up m ys → Up low (xs ++ ys)
up_append low m [] ys le up all above = up_raise m low ys above (λ x e. let more : m ≤ x = among_least m ys above x e in omega arith)
up_append low m (x ∷ xs) ys le up all above =
    let less : x < m = all x (or_left (x == x) (is_among xs x) (eq-eqb x x refl)) in (
      up.0,
      up_append (x + 1) m xs ys (omega arith) up.1 (λ z e. all z (or_right (x == z) (is_among xs z) e)) above,
    )

pub with_rises : (m : ℕ) (xs : List ℕ) → IsStrictlyIncreasing xs → IsStrictlyIncreasing (with m xs)
with_rises m xs rises =
    let front = filter (λ y. nat_lt y m) xs in
    let back = filter (λ y. nat_lt m y) xs in
    up_rises 0 (front ++ m ∷ back)
    (up_append 0 m front (m ∷ back) (omega arith) (up_of front (IsStrictlyIncreasing-filter (λ y. nat_lt y m) xs rises))
    (λ x e.
    let low : nat_lt x m ≡ true = (both_of_and (is_among xs x) (nat_lt x m) (sym (among_filter (λ y. nat_lt y m) xs x) ∙ e)).1 in
    grind (arith, nat_tests)) (
      omega arith,
      up_raise 0 (m + 1) back (up_of back (IsStrictlyIncreasing-filter (λ y. nat_lt m y) xs rises)) (λ x e.
          let high : nat_lt m x ≡ true = (both_of_and (is_among xs x) (nat_lt m x) (sym (among_filter (λ y. nat_lt m y) xs x) ∙ e)).1 in
          grind (arith, nat_tests)),
    ))

pub but_has : (m : ℕ) (xs : List ℕ) (x : ℕ) → is_among (but m xs) x ≡ (is_among xs x && not (x == m))
but_has m xs x = among_filter (λ y. not (y == m)) xs x

pub but_rises : (m : ℕ) (xs : List ℕ) → IsStrictlyIncreasing xs → IsStrictlyIncreasing (but m xs)
but_rises m xs rises = IsStrictlyIncreasing-filter (λ y. not (y == m)) xs rises

-- what the list of rows that pass a test holds
abbrev pub passes : {R : Type 0} → (R → Bool) → Option R → Bool
passes test None = false
passes test (Some r) = test r

module _ {R : Type 0} (number : R → ℕ) (t : R → Bool) where
  none_held : (rows : List R) (x : ℕ) → row_of number rows x ≡ None → is_among (numbered number t rows) x ≡ false
  none_held [] x none = refl
  none_held (r ∷ rows) x none =
      ap (λ (xs : List ℕ). is_among xs x) (numbered_cons number t r rows) ∙ go (number r == x) refl none (none_held rows x) (t r)
    where
      here : List ℕ
      here = numbered number t rows

      go :
          (b : Bool) → (number r == x) ≡ b → cond b (Some r) (row_of number rows x) ≡ None →
          (row_of number rows x ≡ None → is_among here x ≡ false) → (c : Bool) →
          is_among (cond c (number r ∷ here) here) x ≡ false
      go true e none ih c = absurd cc
      go false e none ih true = rw e (ih none)
      go false e none ih false = ih none

  pub among_numbered :
      (low : ℕ) (rows : List R) → RiseBy number low rows → (x : ℕ) →
      is_among (numbered number t rows) x ≡ passes t (row_of number rows x)
  among_numbered low [] rises x = refl
  among_numbered low (r ∷ rows) rises x =
      ap (λ (xs : List ℕ). is_among xs x) (numbered_cons number t r rows) ∙
      go (number r == x) refl (t r) refl (among_numbered (number r + 1) rows rises.1 x)
    where
      here : List ℕ
      here = numbered number t rows

      go :
          (b : Bool) → (number r == x) ≡ b → (c : Bool) → t r ≡ c → is_among here x ≡ passes t (row_of number rows x) →
          is_among (cond c (number r ∷ here) here) x ≡ passes t (cond b (Some r) (row_of number rows x))
      go true e true f ih = rw (e, f) refl
      go true e false f ih =
          let its : number r ≡ x = eqb-true (number r) x e in
          none_held rows x (above_none number x (number r + 1) rows rises.1 (omega arith)) ∙ sym f
      go false e true f ih = rw e ih
      go false e false f ih = ih
