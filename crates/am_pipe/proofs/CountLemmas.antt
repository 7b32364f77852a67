-- Sums over the views of a pipe's ends, and the positions of notes.
use Rattle.std.proofs.Common.{◌≡◌, ◌≢◌, ℕ, zero, suc, ◌+◌, ◌<◌, ◌≤◌, List, [], ◌∷◌, ◌++◌}
use Rattle.std.proofs.Common.{length, set, drop, Some, slice_get, ◌==◌, refl, sym, ap, ◌∙◌, arith}
use Rattle.std.proofs.Common.{length-drop}
use Rattle.std.proofs.lemmas.Bool.Decides.{nat_tests}
use Rattle.std.specs.Prelude.{if◌then◌else◌}
use mathlib.Core.Option.{some, some-injective, some-ne-none}
use lib.ListN.{get_elem?}
use Rattle.am_pipe.specs.{Note, total, once_to, numbered, weigh, weigh_to}

-- the total after one element has changed
pub total_set : {A : Type 0} (f : A → ℕ) (xs : List A) (at : ℕ) (x y : A) → get_elem? xs at ≡ some x
    → total f (set xs at y) + f x ≡ total f xs + f y
total_set f [] at x y is = absurd (some-ne-none x (sym is))
total_set f (z ∷ zs) zero x y is = let e : f z ≡ f x = ap f (some-injective z x is) in omega arith
total_set f (z ∷ zs) (suc at) x y is = let r = total_set f zs at x y is in omega arith

pub total_snoc : {A : Type 0} (f : A → ℕ) (xs : List A) (x : A)
    → total f (xs ++ x ∷ []) ≡ total f xs + f x
total_snoc f [] x = omega arith
total_snoc f (y ∷ ys) x = let r = total_snoc f ys x in omega arith

pub total_append : {A : Type 0} (f : A → ℕ) (xs ys : List A)
    → total f (xs ++ ys) ≡ total f xs + total f ys
total_append f [] ys = omega arith
total_append f (x ∷ xs) ys = let r = total_append f xs ys in omega arith

-- one element is no more than all
total_one : {A : Type 0} (f : A → ℕ) (xs : List A) (at : ℕ) (x : A) → get_elem? xs at ≡ some x
    → f x ≤ total f xs
total_one f [] at x is = absurd (some-ne-none x (sym is))
total_one f (z ∷ zs) zero x is = let e : f z ≡ f x = ap f (some-injective z x is) in omega arith
total_one f (z ∷ zs) (suc at) x is = let r = total_one f zs at x is in omega arith

-- where g is 0 wherever f is, and f comes to 0 in all, so does g
total_zero : {A : Type 0} (f g : A → ℕ) (xs : List A)
    → ((at : ℕ) (x : A) → get_elem? xs at ≡ some x → f x ≡ 0 → g x ≡ 0)
    → total f xs ≡ 0 → total g xs ≡ 0
total_zero f g [] none e = refl
total_zero f g (x ∷ xs) none e =
    let here : g x ≡ 0 = none 0 x refl (omega arith) in
    let rest : total g xs ≡ 0 =
    total_zero f g xs (λ at y is. none (suc at) y is) (omega arith) in
    omega arith

-- where one element has all of f, and g is 0 wherever else f is, it has all of g
pub total_all : {A : Type 0} (f g : A → ℕ) (xs : List A) (at : ℕ) (x : A)
    → get_elem? xs at ≡ some x → total f xs ≡ f x
    → ((other : ℕ) (y : A) → other ≢ at → get_elem? xs other ≡ some y → f y ≡ 0 → g y ≡ 0)
    → total g xs ≡ g x
total_all f g [] at x is all none = absurd (some-ne-none x (sym is))
total_all f g (z ∷ zs) zero x is all none =
    let same : z ≡ x = some-injective z x is in
    let fx : f z ≡ f x = ap f same in
    let gx : g z ≡ g x = ap g same in
    let others : (other : ℕ) (y : _) → get_elem? zs other ≡ some y → f y ≡ 0 → g y ≡ 0 =
    λ other y there. none (suc other) y (λ h. omega arith) there in
    let rest : total g zs ≡ 0 = total_zero f g zs others (omega arith) in omega arith
total_all f g (z ∷ zs) (suc at) x is all none =
    let most = total_one f zs at x is in
    let here : g z ≡ 0 = none 0 z (λ h. omega arith) refl (omega arith) in
    let rest : total g zs ≡ g x =
    total_all f g zs at x is (omega arith)
    (λ other y apart there. none (suc other) y (λ h. apart (omega arith)) there) in
    omega arith

pub length_numbered : (k : ℕ) (ns : List Note) → length (numbered k ns) ≡ length ns
length_numbered k [] = refl
length_numbered k (n ∷ ns) = ap suc (length_numbered (suc k) ns)

pub numbered_snoc : (k : ℕ) (ns : List Note) (n : Note)
    → numbered k (ns ++ n ∷ []) ≡ numbered k ns ++ (suc (k + length ns), n) ∷ []
numbered_snoc k [] n = ap (λ i. (suc i, n) ∷ []) (omega arith)
numbered_snoc k (m ∷ ms) n =
    let rest = numbered (suc k) ms in
    ap (λ l. (suc k, m) ∷ l)
    (numbered_snoc (suc k) ms n ∙ ap (λ i. rest ++ (suc i, n) ∷ []) (omega arith))

pub slice_get_more : (ns : List Note) (n m : Note) (k : ℕ) → slice_get ns k ≡ Some m
    → slice_get (ns ++ n ∷ []) k ≡ Some m
slice_get_more [] n m k is = absurd cc
slice_get_more (x ∷ xs) n m zero is = is
slice_get_more (x ∷ xs) n m (suc k) is = slice_get_more xs n m k is

-- the first of what is left has the position behind those that were dropped, and is the note there
pub first_left : (b : ℕ) (ns : List Note) (k : ℕ) (x : ℕ × Note) (items : List (ℕ × Note))
    → x ∷ items ≡ drop k (numbered b ns)
    → (k < length ns) × (items ≡ drop (suc k) (numbered b ns))
    × (x.0 ≡ suc (b + k)) × (slice_get ns k ≡ Some x.1)
first_left b [] zero x items e = absurd cc
first_left b [] (suc k) x items e = absurd cc
first_left b (n ∷ ns) zero x items e =
    let head : x ≡ (suc b, n) = cc in
    let tail : items ≡ numbered (suc b) ns = cc in
    (omega arith, tail, ap (λ p. p.0) head ∙ ap suc (omega arith), ap (λ p. Some p.1) (sym head))
first_left b (n ∷ ns) (suc k) x items e =
    let r = first_left (suc b) ns k x items e in
    (omega arith, r.1, r.2 ∙ ap suc (omega arith), r.3)

pub left_length : (k : ℕ) (ns : List Note) → length (drop k (numbered 0 ns)) ≡ length (drop k ns)
left_length k ns =
    omega (arith, length-drop k (numbered 0 ns), length-drop k ns, length_numbered 0 ns)

-- counted by 1 each, the positions up to n are n
pub count_to : (n : ℕ) → weigh_to (λ _. 1) n ≡ n
count_to zero = refl
count_to (suc n) = let r = count_to n in omega arith

pub count_of : (xs : List (ℕ × Note)) → weigh (λ _. 1) xs ≡ length xs
count_of [] = refl
count_of (x ∷ xs) = let r = count_of xs in omega arith

-- counted where it is k, a position from 1 to n stands once
pub once_at : (k n : ℕ) → weigh_to (λ p. if p == k then 1 else 0) n ≡ once_to n k
once_at k zero = grind (arith, nat_tests)
once_at k (suc n) = let r = once_at k n in grind (arith, nat_tests)

pub empty_where_length_is_zero : {A : Type 0} (xs : List A) → length xs ≡ 0 → xs ≡ []
empty_where_length_is_zero [] e = refl
empty_where_length_is_zero (x ∷ xs) e = absurd (omega arith)
