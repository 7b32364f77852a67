-- Orders of places.
use Rattle.std.proofs.Common.{◌≡◌, ◌≢◌, ℕ, zero, suc, ◌+◌, ◌<◌, ◌≤◌, ◌==◌, nat_lt, Bool, true, false, cond, List, [], ◌∷◌, ◌++◌, map, length, remove, slice_get, slice_set, get_or, not, position, Option, Some, None, inl, inr, ◌⊎◌, refl, sym, ap, subst, ◌∙◌, arith}
use Rattle.std.proofs.lemmas.Bool.{cases_order, eqb-true, eq-eqb, ne_eqb, cases_eq, ltb-true, ltb-false, lt-ltb, le-ltb}
use Rattle.std.proofs.lemmas.Bool.Decides.{nat_tests}
use Rattle.std.proofs.lemmas.List.Quantifiers.{position-Some}
use Rattle.std.proofs.lemmas.Option.{same_Some, none-some, slice_get-get_or}
use Rattle.std.specs.List.{position_or_len}
use Rattle.am_ordered.specs.{times, IsOrderOf, IsIndexOf, renamed}

-- the first is there
pub there_first : (x : ℕ) (xs : List ℕ) → 0 < times x (x ∷ xs)
there_first x xs = rw (eq-eqb x x refl) (omega arith)

-- what is there further on is there
pub there_later : (q x : ℕ) (xs : List ℕ) → 0 < times q xs → 0 < times q (x ∷ xs)
there_later q x xs h = by (x == q)
  where
    by : (b : Bool) → 0 < cond b (suc (times q xs)) (times q xs)
    by true = omega arith
    by false = h

-- where it isn't the first it is there further on, as often
pub times_other : (q x : ℕ) (xs : List ℕ) → x ≢ q → times q (x ∷ xs) ≡ times q xs
times_other q x xs h = rw (ne_eqb x q h) refl

pub times_this : (x : ℕ) (xs : List ℕ) → times x (x ∷ xs) ≡ suc (times x xs)
times_this x xs = rw (eq-eqb x x refl) refl

-- what an index shows is there
pub there_at : (xs : List ℕ) (i p : ℕ) → slice_get xs i ≡ Some p → 0 < times p xs
there_at [] i p h = absurd (none-some p h)
there_at (x ∷ xs) zero p h = subst (λ (q : ℕ). 0 < times q (x ∷ xs)) (same_Some x p h) (there_first x xs)
there_at (x ∷ xs) (suc i) p h = there_later p x xs (there_at xs i p h)

-- once one goes, each other place is there as often as before
pub times_removed : (xs : List ℕ) (i p q : ℕ) → slice_get xs i ≡ Some p → times q xs ≡ cond (p == q) (suc (times q (remove xs i))) (times q (remove xs i))
times_removed [] i p q h = absurd (none-some p h)
times_removed (x ∷ xs) zero p q h = rw (same_Some x p h) refl
times_removed (x ∷ xs) (suc i) p q h = by (x == q) (p == q) (times_removed xs i p q h)
  where
    by : (b c : Bool) → times q xs ≡ cond c (suc (times q (remove xs i))) (times q (remove xs i)) →
        cond b (suc (times q xs)) (times q xs) ≡ cond c (suc (cond b (suc (times q (remove xs i))) (times q (remove xs i)))) (cond b (suc (times q (remove xs i))) (times q (remove xs i)))
    by true true later = ap suc later
    by true false later = ap suc later
    by false true later = later
    by false false later = later

-- where the last is at its own place nothing is renamed
pub renamed_alike : (p : ℕ) (xs : List ℕ) → map (renamed p p) xs ≡ xs
renamed_alike p [] = refl
renamed_alike p (x ∷ xs) = rw (renamed_alike p xs) (by (x == p) refl)
  where
    by : (b : Bool) → (x == p) ≡ b → cond b p x ∷ xs ≡ x ∷ xs
    by true e = ap (λ (y : ℕ). y ∷ xs) (sym (eqb-true x p e))
    by false e = refl

-- and where it isn't there
pub renamed_none : (last p : ℕ) (xs : List ℕ) → times last xs ≡ 0 → map (renamed last p) xs ≡ xs
renamed_none last p [] h = refl
renamed_none last p (x ∷ xs) h = by (x == last) refl (renamed_none last p xs)
  where
    by : (b : Bool) → (x == last) ≡ b → (times last xs ≡ 0 → map (renamed last p) xs ≡ xs) → map (renamed last p) (x ∷ xs) ≡ x ∷ xs
    by true e later = absurd (omega (arith, subst (λ (c : Bool). cond c (suc (times last xs)) (times last xs) ≡ 0) e h))
    by false e later = rw (e, later (subst (λ (c : Bool). cond c (suc (times last xs)) (times last xs) ≡ 0) e h)) refl

-- where it is there once, that one is written over
pub renamed_one : (last p : ℕ) (xs : List ℕ) (i : ℕ) → slice_get xs i ≡ Some last → times last xs ≤ 1 → slice_set xs i p ≡ map (renamed last p) xs
renamed_one last p [] i h once = absurd (none-some last h)
renamed_one last p (x ∷ xs) zero h once =
    let here : x ≡ last = same_Some x last h in
    let e : (x == last) ≡ true = eq-eqb x last here in
    let few : suc (times last xs) ≤ 1 = subst (λ (c : Bool). cond c (suc (times last xs)) (times last xs) ≤ 1) e once in
    rw (e, renamed_none last p xs (omega arith)) refl
renamed_one last p (x ∷ xs) (suc i) h once = by (x == last) refl (renamed_one last p xs i h)
  where
    by : (b : Bool) → (x == last) ≡ b → (times last xs ≤ 1 → slice_set xs i p ≡ map (renamed last p) xs) → x ∷ slice_set xs i p ≡ map (renamed last p) (x ∷ xs)
    by true e later =
        let few : suc (times last xs) ≤ 1 = subst (λ (c : Bool). cond c (suc (times last xs)) (times last xs) ≤ 1) e once in
        absurd (omega (arith, there_at xs i last h))
    by false e later =
        rw (e, later (subst (λ (c : Bool). cond c (suc (times last xs)) (times last xs) ≤ 1) e once)) refl

-- how often a place is there after the renaming
pub times_renamed_other : (last p q : ℕ) (xs : List ℕ) → q ≢ p → q ≢ last → times q (map (renamed last p) xs) ≡ times q xs
times_renamed_other last p q [] h k = refl
times_renamed_other last p q (x ∷ xs) h k = by (times_renamed_other last p q xs h k) (x == last) refl
  where
    by : times q (map (renamed last p) xs) ≡ times q xs → (b : Bool) → (x == last) ≡ b → times q (map (renamed last p) (x ∷ xs)) ≡ times q (x ∷ xs)
    by later true e =
        let apart : x ≢ q = λ (s : x ≡ q). k (sym s ∙ eqb-true x last e) in
        rw (e, ne_eqb p q (λ (s : p ≡ q). h (sym s)), ne_eqb x q apart) later
    by later false e = rw (e, later) refl

pub times_renamed_last : (last p : ℕ) (xs : List ℕ) → p ≢ last → times last (map (renamed last p) xs) ≡ 0
times_renamed_last last p [] h = refl
times_renamed_last last p (x ∷ xs) h = by (times_renamed_last last p xs h) (x == last) refl
  where
    by : times last (map (renamed last p) xs) ≡ 0 → (b : Bool) → (x == last) ≡ b → times last (map (renamed last p) (x ∷ xs)) ≡ 0
    by later true e = rw (e, ne_eqb p last h) later
    by later false e = rw (e, e) later

pub times_renamed_this : (last p : ℕ) (xs : List ℕ) → p ≢ last → times p (map (renamed last p) xs) ≡ times p xs + times last xs
times_renamed_this last p [] h = refl
times_renamed_this last p (x ∷ xs) h = by (times_renamed_this last p xs h) (x == last) refl
  where
    more : (b : Bool) → cond b (suc (times p xs + times last xs)) (times p xs + times last xs) ≡ cond b (suc (times p xs)) (times p xs) + times last xs
    more true = omega arith
    more false = refl

    by : times p (map (renamed last p) xs) ≡ times p xs + times last xs → (b : Bool) → (x == last) ≡ b → times p (map (renamed last p) (x ∷ xs)) ≡ times p (x ∷ xs) + times last (x ∷ xs)
    by later true e =
        let apart : x ≢ p = λ (s : x ≡ p). h (sym s ∙ eqb-true x last e) in
        rw (e, ne_eqb x p apart, eq-eqb p p refl, later) (omega arith)
    by later false e = rw (e, later) (more (x == p))

-- ---- an order of places

-- the places are below the count
pub below_count : (n : ℕ) (xs : List ℕ) (p : ℕ) → IsOrderOf n xs → 0 < times p xs → p < n
below_count n xs p ok h = by (nat_lt p n) refl
  where
    by : (b : Bool) → nat_lt p n ≡ b → p < n
    by true e = ltb-true p n e
    by false e = absurd (omega (arith, subst (λ (c : Bool). times p xs ≡ cond c 1 0) e (ok p)))

-- each of them is there once
pub there_once : (n : ℕ) (xs : List ℕ) (p : ℕ) → IsOrderOf n xs → p < n → times p xs ≡ 1
there_once n xs p ok h = ok p ∙ ap (λ (c : Bool). cond c 1 0) (lt-ltb p n h)

pub none_above : (n : ℕ) (xs : List ℕ) (p : ℕ) → IsOrderOf n xs → n ≤ p → times p xs ≡ 0
none_above n xs p ok h = ok p ∙ ap (λ (c : Bool). cond c 1 0) (le-ltb p n h)

times_push : (p x : ℕ) (xs : List ℕ) → times p (xs ++ x ∷ []) ≡ times p xs + cond (x == p) 1 0
times_push p x [] = by (x == p)
  where
    by : (b : Bool) → cond b 1 0 ≡ 0 + cond b 1 0
    by true = refl
    by false = refl
times_push p x (y ∷ xs) = rw (times_push p x xs) (by (y == p))
  where
    by : (b : Bool) → cond b (suc (times p xs + cond (x == p) 1 0)) (times p xs + cond (x == p) 1 0) ≡ cond b (suc (times p xs)) (times p xs) + cond (x == p) 1 0
    by true = omega arith
    by false = refl

-- one more place
pub one_more : (n : ℕ) (xs : List ℕ) → IsOrderOf n xs → IsOrderOf (suc n) (xs ++ n ∷ [])
one_more n xs ok p = times_push p n xs ∙ by (cases_order p n)
  where
    by : (p ≡ n) ⊎ ((p < n) ⊎ (n < p)) → times p xs + cond (n == p) 1 0 ≡ cond (nat_lt p (suc n)) 1 0
    by (inl e) = rw (eq-eqb n p (sym e), lt-ltb p (suc n) (omega arith), none_above n xs p ok (omega arith)) refl
    by (inr (inl l)) = rw (ne_eqb n p (λ (s : n ≡ p). omega arith), lt-ltb p (suc n) (omega arith), there_once n xs p ok l) refl
    by (inr (inr l)) = rw (ne_eqb n p (λ (s : n ≡ p). omega arith), le-ltb p (suc n) (omega arith), none_above n xs p ok (omega arith)) refl

-- how often a place is there once the one at the index is gone
removed_this : (xs : List ℕ) (i p : ℕ) → slice_get xs i ≡ Some p → times p xs ≡ suc (times p (remove xs i))
removed_this xs i p h = times_removed xs i p p h ∙ ap (λ (b : Bool). cond b (suc (times p (remove xs i))) (times p (remove xs i))) (eq-eqb p p refl)

pub removed_other : (xs : List ℕ) (i p q : ℕ) → slice_get xs i ≡ Some p → p ≢ q → times q xs ≡ times q (remove xs i)
removed_other xs i p q h k = times_removed xs i p q h ∙ ap (λ (b : Bool). cond b (suc (times q (remove xs i))) (times q (remove xs i))) (ne_eqb p q k)

-- a place that goes is there no more
pub gone : (n : ℕ) (xs : List ℕ) (i p : ℕ) → IsOrderOf n xs → slice_get xs i ≡ Some p → times p (remove xs i) ≡ 0
gone n xs i p ok h =
    let once : times p xs ≡ 1 = there_once n xs p ok (below_count n xs p ok (there_at xs i p h)) in
    omega (arith, removed_this xs i p h)

-- a place goes, and what was last is there
pub one_less : (n : ℕ) (xs : List ℕ) (i p : ℕ) → IsOrderOf (suc n) xs → slice_get xs i ≡ Some p → IsOrderOf n (map (renamed n p) (remove xs i))
one_less n xs i p ok h q = by (cases_eq p n) (cases_eq q p) (cases_eq q n)
  where
    ys : List ℕ
    ys = remove xs i

    within : p < suc n
    within = below_count (suc n) xs p ok (there_at xs i p h)

    other : (r : ℕ) → p ≢ r → times r ys ≡ cond (nat_lt r (suc n)) 1 0
    other r k = sym (removed_other xs i p r h k) ∙ ok r

    further : (r : ℕ) → r ≢ n → ◌≡◌ {A = ℕ} (cond (nat_lt r (suc n)) 1 0) (cond (nat_lt r n) 1 0)
    further r k = grind (arith, nat_tests)

    by : (p ≡ n) ⊎ (p ≢ n) → (q ≡ p) ⊎ (q ≢ p) → (q ≡ n) ⊎ (q ≢ n) → times q (map (renamed n p) ys) ≡ cond (nat_lt q n) 1 0
    by (inl e) (inl f) g =
        rw (e, renamed_alike n ys, f, gone (suc n) xs i p ok h, le-ltb p n (omega arith)) refl
    by (inl e) (inr f) g =
        rw (e, renamed_alike n ys) (other q (λ (s : p ≡ q). f (sym s)) ∙ further q (λ (s : q ≡ n). f (s ∙ sym e)))
    by (inr e) (inl f) g =
        rw (f, times_renamed_this n p ys e, gone (suc n) xs i p ok h, other n e, lt-ltb n (suc n) (omega arith), lt-ltb p n (omega (arith, within))) refl
    by (inr e) (inr f) (inl g) =
        rw (g, times_renamed_last n p ys e, le-ltb n n (omega arith)) refl
    by (inr e) (inr f) (inr g) =
        times_renamed_other n p q ys f g ∙ other q (λ (s : p ≡ q). f (sym s)) ∙ further q g

-- what no test finds isn't there
past_all : (p : ℕ) (xs : List ℕ) → length xs ≤ position_or_len (λ x. x == p) xs → times p xs ≡ 0
past_all p [] h = refl
past_all p (x ∷ xs) h = by (x == p) refl (past_all p xs)
  where
    by : (b : Bool) → (x == p) ≡ b → (length xs ≤ position_or_len (λ y. y == p) xs → times p xs ≡ 0) → times p (x ∷ xs) ≡ 0
    by true e later =
        let few : suc (length xs) ≤ 0 = subst (λ (c : Bool). suc (length xs) ≤ cond (not c) (1 + position_or_len (λ y. y == p) xs) 0) e h in
        absurd (omega arith)
    by false e later =
        let more : suc (length xs) ≤ 1 + position_or_len (λ y. y == p) xs = subst (λ (c : Bool). suc (length xs) ≤ cond (not c) (1 + position_or_len (λ y. y == p) xs) 0) e h in
        rw e (later (omega arith))

none_there : (p : ℕ) (xs : List ℕ) → position (λ x. x == p) xs ≡ None → times p xs ≡ 0
none_there p xs h = by (nat_lt (position_or_len (λ x. x == p) xs) (length xs)) refl
  where
    by : (b : Bool) → nat_lt (position_or_len (λ x. x == p) xs) (length xs) ≡ b → times p xs ≡ 0
    by true e = absurd (none-some (position_or_len (λ x. x == p) xs) (sym (subst (λ (c : Bool). cond c (Some (position_or_len (λ x. x == p) xs)) None ≡ None) e h)))
    by false e = past_all p xs (ltb-false (position_or_len (λ x. x == p) xs) (length xs) e)

-- where a place stands first
pub position_is : (p : ℕ) (xs : List ℕ) (r : Option ℕ) → r ≡ position (λ x. x == p) xs → IsIndexOf p xs r
position_is p xs None e = none_there p xs (sym e)
position_is p xs (Some i) e =
    let found = position-Some (λ x. x == p) xs i 0 (sym e) in
    slice_get-get_or xs i 0 found.0 ∙ ap Some (eqb-true (get_or xs i 0) p found.1)

-- once one goes, none is there twice
pub few_left : (n : ℕ) (xs : List ℕ) (i p q : ℕ) → IsOrderOf n xs → slice_get xs i ≡ Some p → times q (remove xs i) ≤ 1
few_left n xs i p q ok h = by (nat_lt q n) (p == q) (sym (ok q) ∙ times_removed xs i p q h)
  where
    by : (b c : Bool) → ◌≡◌ {A = ℕ} (cond b 1 0) (cond c (suc (times q (remove xs i))) (times q (remove xs i))) → times q (remove xs i) ≤ 1
    by true true e = omega arith
    by true false e = omega arith
    by false true e = omega arith
    by false false e = omega arith
