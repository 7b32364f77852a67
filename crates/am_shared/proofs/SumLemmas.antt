-- Sums over the views of passes.
use Rattle.std.proofs.Common.{◌≡◌, ◌≢◌, ℕ, zero, suc, ◌+◌, ◌≤◌, List, [], ◌∷◌, ◌++◌}
use Rattle.std.proofs.Common.{set, refl, sym, ap, arith}
use mathlib.Core.Option.{some, some-injective, some-ne-none}
use lib.ListN.{get_elem?}
use Rattle.am_shared.specs.Chronicle.{total}

-- the total after one element has changed
pub total_set : {A : Type 0} (f : A → ℕ) (xs : List A) (at : ℕ) (x y : A) → get_elem? xs at ≡ some x
    → total f (set xs at y) + f x ≡ total f xs + f y
total_set f [] at x y is = absurd (some-ne-none x (sym is))
total_set f (z ∷ zs) zero x y is = let e : f z ≡ f x = ap f (some-injective z x is) in omega arith
total_set f (z ∷ zs) (suc at) x y is = let r = total_set f zs at x y is in omega arith

pub total_snoc : {A : Type 0} (f : A → ℕ) (xs : List A) (x : A)
    → total f (xs ++ x ∷ []) ≡ total f xs + f x
total_snoc f [] x = omega arith
total_snoc f (y ∷ ys) x = let r = total_snoc f ys x in omega arith

pub total_append : {A : Type 0} (f : A → ℕ) (xs ys : List A)
    → total f (xs ++ ys) ≡ total f xs + total f ys
total_append f [] ys = omega arith
total_append f (x ∷ xs) ys = let r = total_append f xs ys in omega arith

-- one element is no more than all
pub total_one : {A : Type 0} (f : A → ℕ) (xs : List A) (at : ℕ) (x : A) → get_elem? xs at ≡ some x
    → f x ≤ total f xs
total_one f [] at x is = absurd (some-ne-none x (sym is))
total_one f (z ∷ zs) zero x is = let e : f z ≡ f x = ap f (some-injective z x is) in omega arith
total_one f (z ∷ zs) (suc at) x is = let r = total_one f zs at x is in omega arith

-- where g is 0 wherever f is, and f comes to 0 in all, so does g
total_zero : {A : Type 0} (f g : A → ℕ) (xs : List A)
    → ((at : ℕ) (x : A) → get_elem? xs at ≡ some x → f x ≡ 0 → g x ≡ 0)
    → total f xs ≡ 0 → total g xs ≡ 0
total_zero f g [] none e = refl
total_zero f g (x ∷ xs) none e =
    let here : g x ≡ 0 = none 0 x refl (omega arith) in
    let rest : total g xs ≡ 0 =
    total_zero f g xs (λ at y is. none (suc at) y is) (omega arith) in
    omega arith

-- where one element has all of f, and g is 0 wherever else f is, it has all of g
pub total_all : {A : Type 0} (f g : A → ℕ) (xs : List A) (at : ℕ) (x : A)
    → get_elem? xs at ≡ some x → total f xs ≡ f x
    → ((other : ℕ) (y : A) → other ≢ at → get_elem? xs other ≡ some y → f y ≡ 0 → g y ≡ 0)
    → total g xs ≡ g x
total_all f g [] at x is all none = absurd (some-ne-none x (sym is))
total_all f g (z ∷ zs) zero x is all none =
    let same : z ≡ x = some-injective z x is in
    let fx : f z ≡ f x = ap f same in
    let gx : g z ≡ g x = ap g same in
    let others : (other : ℕ) (y : _) → get_elem? zs other ≡ some y → f y ≡ 0 → g y ≡ 0 =
    λ other y there. none (suc other) y (λ h. omega arith) there in
    let rest : total g zs ≡ 0 = total_zero f g zs others (omega arith) in omega arith
total_all f g (z ∷ zs) (suc at) x is all none =
    let most = total_one f zs at x is in
    let here : g z ≡ 0 = none 0 z (λ h. omega arith) refl (omega arith) in
    let rest : total g zs ≡ g x =
    total_all f g zs at x is (omega arith)
    (λ other y apart there. none (suc other) y (λ h. apart (omega arith)) there) in
    omega arith
