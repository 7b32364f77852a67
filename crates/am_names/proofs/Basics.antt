-- What is true of any Boolean, number, option or list.
use Rattle.std.proofs.Common.{◌≡◌, ℕ, zero, suc, ◌+◌, Bool, true, false, cond, ◌||◌, List, [], ◌∷◌, take, slice_get, Option, Some, None, Result, Ok, Err, refl, sym, ap, subst, ◌∙◌, arith}
use Rattle.std.specs.Prelude.{◌&&◌, ◌==◌, not, find, is_some, IsOk, OnOk}
use Rattle.std.specs.Option.{option_map}
use Rattle.std.proofs.lemmas.Bool.{eq-eqb}

-- ---- Booleans

pub or_left : (a b : Bool) → a ≡ true → (a || b) ≡ true
or_left true b h = refl
or_left false b h = absurd cc

pub or_right : (a b : Bool) → b ≡ true → (a || b) ≡ true
or_right true b h = refl
or_right false b h = h

pub or_true : (b : Bool) → (b || true) ≡ true
or_true true = refl
or_true false = refl

pub or_false : (b : Bool) → (b || false) ≡ b
or_false true = refl
or_false false = refl

-- neither of two is true
pub or_neither : (a b : Bool) → a ≡ false → b ≡ false → (a || b) ≡ false
or_neither true b g h = absurd cc
or_neither false b g h = h

pub neither_of_or : (a b : Bool) → (a || b) ≡ false → (a ≡ false) × (b ≡ false)
neither_of_or true b h = absurd cc
neither_of_or false b h = (refl, h)

pub or_assoc : (a b c : Bool) → (a || (b || c)) ≡ ((a || b) || c)
or_assoc true b c = refl
or_assoc false b c = refl

pub and_false : (b : Bool) → (b && false) ≡ false
and_false true = refl
and_false false = refl

pub and_of_both : (a b : Bool) → a ≡ true → b ≡ true → (a && b) ≡ true
and_of_both true b g h = h
and_of_both false b g h = absurd cc

pub both_of_and : (a b : Bool) → (a && b) ≡ true → (a ≡ true) × (b ≡ true)
both_of_and true b h = (refl, h)
both_of_and false b h = absurd cc

pub left_of_and : (a b : Bool) → (a && b) ≡ true → a ≡ true
left_of_and true b h = refl
left_of_and false b h = absurd cc

pub right_of_and : (a b : Bool) → (a && b) ≡ true → b ≡ true
right_of_and true b h = h
right_of_and false b h = absurd cc

pub and_where_left_is_false : (a b : Bool) → a ≡ false → (a && b) ≡ false
and_where_left_is_false true b h = absurd cc
and_where_left_is_false false b h = refl

pub not_or : (a b : Bool) → not (a || b) ≡ (not a && not b)
not_or true b = refl
not_or false b = refl

pub false_where_not : (b : Bool) → not b ≡ true → b ≡ false
false_where_not true h = absurd cc
false_where_not false h = refl

pub true_where_not_false : (b : Bool) → not b ≡ false → b ≡ true
true_where_not_false true h = refl
true_where_not_false false h = absurd cc

pub not_where_false : (b : Bool) → b ≡ false → not b ≡ true
not_where_false true h = absurd cc
not_where_false false h = refl

pub false_unless_true : (b : Bool) → (b ≡ true → ⊥) → b ≡ false
false_unless_true true h = absurd (h refl)
false_unless_true false h = refl

-- two tests that follow from one another are the same
pub same_test : (a b : Bool) → (a ≡ true → b ≡ true) → (b ≡ true → a ≡ true) → a ≡ b
same_test true true g h = refl
same_test true false g h = let wrong = g refl in absurd cc
same_test false true g h = let wrong = h refl in absurd cc
same_test false false g h = refl

-- ---- numbers

pub equal_by_test : (a b : ℕ) → (a == b) ≡ true → a ≡ b
equal_by_test a b h = grind (arith, h)

pub equal_to_itself : (n : ℕ) → (n == n) ≡ true
equal_to_itself n = eq-eqb n n refl

pub differ_the_other_way : (a b : ℕ) → (a == b) ≡ false → (b == a) ≡ false
differ_the_other_way a b h = grind (arith, h)

pub equal_either_way : (a b : ℕ) → (a == b) ≡ (b == a)
equal_either_way a b = grind arith

-- ---- options and results

pub some_injective : {X : Type 0} {x y : X} → Some x ≡ Some y → x ≡ y
some_injective h = cc

pub none_is_not_some : {X : Type 0} (x : X) → None ≡ Some x → ⊥
none_is_not_some x h = absurd cc

pub none_where_not_some : {X : Type 0} (o : Option X) → is_some o ≡ false → o ≡ None
none_where_not_some None h = refl
none_where_not_some (Some x) h = absurd cc

pub value_where_some : {X : Type 0} (o : Option X) → is_some o ≡ true → (x : X) × (o ≡ Some x)
value_where_some None h = absurd cc
value_where_some (Some x) h = (x, refl)

pub none_where_mapped_none : {X Y : Type 0} (f : X → Y) (o : Option X) → option_map f o ≡ None → o ≡ None
none_where_mapped_none f None h = refl
none_where_mapped_none f (Some x) h = absurd cc

pub holds_where_ok : {T E P : Type 0} (r : Result T E) → IsOk r → OnOk r P → P
holds_where_ok (Ok x) h p = p
holds_where_ok (Err e) h p = absurd cc

-- ---- lists

-- what is found passes the test
pub found_passes : {R : Type 0} (test : R → Bool) (rows : List R) (r : R) → find test rows ≡ Some r → test r ≡ true
found_passes test [] r e = absurd cc
found_passes {R} test (x ∷ rows) r e = go (test x) refl e (found_passes test rows r)
  where
    go : (b : Bool) → test x ≡ b → cond b (Some x) (find test rows) ≡ Some r → (find test rows ≡ Some r → test r ≡ true) → test r ≡ true
    go true t e ih = let same : x ≡ r = cc in subst (λ (y : R). test y ≡ true) same t
    go false t e ih = ih e

taken_alike : {X : Type 0} (xs ys : List X) (i : ℕ) → take i xs ≡ take i ys → slice_get xs i ≡ slice_get ys i → take (suc i) xs ≡ take (suc i) ys
taken_alike [] [] i h e = refl
taken_alike [] (y ∷ ys) zero h e = absurd (none_is_not_some y e)
taken_alike [] (y ∷ ys) (suc i) h e = absurd cc
taken_alike (x ∷ xs) [] zero h e = absurd (none_is_not_some x (sym e))
taken_alike (x ∷ xs) [] (suc i) h e = absurd cc
taken_alike (x ∷ xs) (y ∷ ys) zero h e = ap (λ row. row ∷ []) (some_injective e)
taken_alike (x ∷ xs) (y ∷ ys) (suc i) h e =
    let first : x ≡ y = cc in
    let before : take i xs ≡ take i ys = cc in
    let others : take (suc i) xs ≡ take (suc i) ys = taken_alike xs ys i before e in
    cc

-- those before a row are the same in both lists, and so is the row
pub one_more_alike : {X : Type 0} (xs ys : List X) (i : ℕ) → take i xs ≡ take i ys → slice_get xs i ≡ slice_get ys i → take (i + 1) xs ≡ take (i + 1) ys
one_more_alike xs ys i h e =
    let next : i + 1 ≡ suc i = omega arith in
    ap (λ (n : ℕ). take n xs) next ∙ taken_alike xs ys i h e ∙ ap (λ (n : ℕ). take n ys) (sym next)
