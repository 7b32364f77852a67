-- What is among the numbers of mounts, and in a filter of them.
use Rattle.std.proofs.Common.{◌≡◌, ◌≤◌, ◌+◌, ℕ, zero, suc, Bool, true, false, cond, eqb, ◌||◌, List, [], ◌∷◌, Option, Some, None, refl, sym, ap, subst, ⊎_elim, ◌∙◌, arith, add-one}
use Rattle.std.specs.Prelude.{filter, map, ◌==◌}
use Rattle.std.specs.List.{list_any}
use Rattle.std.specs.List.Sorted.{IsStrictlyIncreasing}
use Rattle.std.proofs.lemmas.Bool.{eqb-true, eq-eqb, or_cases}
use Rattle.std.proofs.lemmas.Map.Views.{any-filter_same}
use Rattle.am_names.proofs.Basics.{or_left, or_right}
use Rattle.am_names.specs.{MemberRow, RiseBy}
use Rattle.am_group.specs.{member_row, is_just, numbers}

abbrev pub has : ℕ → List ℕ → Bool
has c xs = list_any (λ x. eqb c x) xs

pub any_has : (test : ℕ → Bool) (xs : List ℕ) → list_any test xs ≡ true → (x : ℕ) × (has x xs ≡ true) × (test x ≡ true)
any_has test [] e = absurd cc
any_has test (x ∷ xs) e = go (test x) refl e (any_has test xs)
  where
    go : (b : Bool) → test x ≡ b → (b || list_any test xs) ≡ true → (list_any test xs ≡ true → (y : ℕ) × (has y xs ≡ true) × (test y ≡ true)) → (y : ℕ) × (has y (x ∷ xs) ≡ true) × (test y ≡ true)
    go true f e ih = (x, rw (eq-eqb x x refl) refl, f)
    go false f e ih = let rest = ih e in (rest.0, or_right (eqb rest.0 x) (has rest.0 xs) rest.1, rest.2)

pub has_any : (test : ℕ → Bool) (xs : List ℕ) (x : ℕ) → has x xs ≡ true → test x ≡ true → list_any test xs ≡ true
has_any test [] x h e = absurd cc
has_any test (y ∷ xs) x h e = ⊎_elim
    (λ same. or_left (test y) (list_any test xs) (subst (λ (z : ℕ). test z ≡ true) (eqb-true x y same) e))
    (λ later. or_right (test y) (list_any test xs) (has_any test xs x later e))
    (or_cases (eqb x y) (has x xs) h)

pub has-filter : (p : ℕ → Bool) (xs : List ℕ) (c : ℕ) → has c xs ≡ true → p c ≡ true → has c (filter p xs) ≡ true
has-filter p xs c h e = any-filter_same (λ x. eqb c x) p true (λ k same. subst (λ (z : ℕ). p z ≡ true) (eqb-true c k same) e) xs ∙ h

pub has-from_filter : (p : ℕ → Bool) (xs : List ℕ) (c : ℕ) → has c (filter p xs) ≡ true → (has c xs ≡ true) × (p c ≡ true)
has-from_filter p [] c h = absurd cc
has-from_filter p (x ∷ xs) c h = go (p x) refl h (has-from_filter p xs c)
  where
    go : (b : Bool) → p x ≡ b → has c (cond b (x ∷ filter p xs) (filter p xs)) ≡ true → (has c (filter p xs) ≡ true → (has c xs ≡ true) × (p c ≡ true)) → (has c (x ∷ xs) ≡ true) × (p c ≡ true)
    go true e h ih = ⊎_elim
        (λ same. (or_left (eqb c x) (has c xs) same, subst (λ (z : ℕ). p z ≡ true) (sym (eqb-true c x same)) e))
        (λ later. (or_right (eqb c x) (has c xs) (ih later).0, (ih later).1))
        (or_cases (eqb c x) (has c (filter p xs)) h)
    go false e h ih = (or_right (eqb c x) (has c xs) (ih h).0, (ih h).1)

-- one step, as a test
pub just_same : (g : ℕ) (o : Option ℕ) → is_just g o ≡ true → o ≡ Some g
just_same g None e = absurd cc
just_same g (Some h) e = ap Some (eqb-true h g e)

pub just_self : (g : ℕ) (o : Option ℕ) → o ≡ Some g → is_just g o ≡ true
just_self g o e = rw (e, eq-eqb g g refl) refl

-- what is looked up stands
pub has_number : (rows : List MemberRow) (c : ℕ) (r : MemberRow) → member_row rows c ≡ Some r → has c (numbers rows) ≡ true
has_number [] c r e = absurd cc
has_number (x ∷ rows) c r e = go (x.mount == c) refl e (has_number rows c r)
  where
    go : (b : Bool) → (x.mount == c) ≡ b → cond b (Some x) (member_row rows c) ≡ Some r → (member_row rows c ≡ Some r → has c (numbers rows) ≡ true) → (eqb c x.mount || has c (numbers rows)) ≡ true
    go true f e ih = or_left (eqb c x.mount) (has c (numbers rows)) (eq-eqb c x.mount (sym (eqb-true x.mount c f)))
    go false f e ih = or_right (eqb c x.mount) (has c (numbers rows)) (ih e)

-- the numbers of rows that rise do so
pub numbers_rise :
    {R : Type 0} (number : R → ℕ) (low : ℕ) (rows : List R) → RiseBy number low rows →
    IsStrictlyIncreasing (map number rows)
numbers_rise number low [] rises = λ k h. absurd (omega arith)
numbers_rise number low (r ∷ []) rises = λ k h. absurd (omega arith)
numbers_rise number low (r ∷ x ∷ rows) rises = go (numbers_rise number (number r + 1) (x ∷ rows) rises.1)
  where
    go : IsStrictlyIncreasing (map number (x ∷ rows)) → IsStrictlyIncreasing (map number (r ∷ x ∷ rows))
    go ih zero h = let lower : number r + 1 ≤ number x = rises.1.0 in omega arith
    go ih (suc k) h = rw (add-one) (rw (add-one) at (ih k (omega arith)))

-- the same numbers stay by tests that are the same
pub kept_same :
    (p q : ℕ → Bool) → ((g : ℕ) → p g ≡ q g) → (xs : List ℕ) → filter p xs ≡ filter q xs
kept_same p q same [] = refl
kept_same p q same (x ∷ xs) = rw (same x) (go (q x) (kept_same p q same xs))
  where
    go : {ys zs : List ℕ} (b : Bool) → ys ≡ zs → cond b (x ∷ ys) ys ≡ cond b (x ∷ zs) zs
    go true e = ap (λ (ws : List ℕ). x ∷ ws) e
    go false e = e
