-- What is found among words is found among what they hold.
use Rattle.std.proofs.Common.{◌≡◌, ℕ, ◌<◌, Bool, true, cond, ltb, List, [], ◌∷◌, length, map, get_or, Option, Some, None, ◌≤◌, refl, subst, ◌∙◌, ◌-◌, suc, arith}
use Rattle.std.specs.Prelude.{position, find}
use Rattle.std.specs.List.{list_any, position_or_len, slice_get, last_or}
use Rattle.std.specs.Option.{option_map}
use Rattle.std.proofs.lemmas.List.{length-map}
use Rattle.std.proofs.lemmas.List.Folds.{find_at}
use Rattle.std.proofs.lemmas.List.Sums.{passes_at_first}
use Rattle.std.proofs.lemmas.Option.{cond_some, slice_get-get_or, slice_get_past}
use Rattle.std.proofs.lemmas.Bool.{ltb-true}
use Rattle.std.proofs.lemmas.Bool.Decides.{nat_tests}

pub any_of : {A B : Type 0} (f : A → B) (p : B → Bool) (xs : List A) →
    list_any p (map f xs) ≡ list_any (λ x. p (f x)) xs
any_of f p [] = refl
any_of f p (x ∷ xs) = rw (any_of f p xs) refl

place_of : {A B : Type 0} (f : A → B) (p : B → Bool) (xs : List A) →
    position_or_len p (map f xs) ≡ position_or_len (λ x. p (f x)) xs
place_of f p [] = refl
place_of f p (x ∷ xs) = rw (place_of f p xs) refl

pub position_of : {A B : Type 0} (f : A → B) (p : B → Bool) (xs : List A) →
    position p (map f xs) ≡ position (λ x. p (f x)) xs
position_of f p xs = rw (place_of f p xs, length-map xs f) refl

-- the item at this place is the first one that passes
pub record IsFirst {A : Type 0} (p : A → Bool) (xs : List A) (at : ℕ) : Type 0 where
  pub within : at < length xs
  pub place : position_or_len p xs ≡ at
  pub passes : (d : A) → p (get_or xs at d) ≡ true
  pub is : (d : A) → find p xs ≡ Some (get_or xs at d)

pub first_at : {A : Type 0} (p : A → Bool) (xs : List A) (at : ℕ) → position p xs ≡ Some at → IsFirst p xs at
first_at p xs at e =
    let h = cond_some (ltb (position_or_len p xs) (length xs)) (position_or_len p xs) at e in
    let within : position_or_len p xs < length xs = ltb-true _ _ h.0 in
    subst (λ (i : ℕ). IsFirst p xs i) h.1 (record {
      within = within;
      place = refl;
      passes = λ d. passes_at_first p xs d within;
      is = λ d. find_at p xs ∙ slice_get-get_or xs (position_or_len p xs) d within;
    })

past : (n len : ℕ) → cond (ltb n len) (Some n) None ≡ None → len ≤ n
past n len e = grind (arith, nat_tests)

-- nothing passes
pub none_found : {A : Type 0} (p : A → Bool) (xs : List A) → position p xs ≡ None → find p xs ≡ None
none_found p xs e =
    find_at p xs ∙ slice_get_past xs (position_or_len p xs) (past (position_or_len p xs) (length xs) e)

last_from : {A B : Type 0} (f : A → B) (o : Option A) (xs : List A) →
    last_or (option_map f o) (map f xs) ≡ option_map f (last_or o xs)
last_from f o [] = refl
last_from f o (x ∷ xs) = last_from f (Some x) xs

pub last_of : {A B : Type 0} (f : A → B) (xs : List A) →
    last_or None (map f xs) ≡ option_map f (last_or None xs)
last_of f xs = last_from f None xs

last_get : {A : Type 0} (x : A) (xs : List A) → last_or (Some x) xs ≡ slice_get (x ∷ xs) (length xs)
last_get x [] = refl
last_get x (y ∷ ys) = last_get y ys

-- the last item by its place
pub last_is : {A : Type 0} (xs : List A) → last_or None xs ≡ slice_get xs (length xs - 1)
last_is [] = refl
last_is (x ∷ xs) =
    let e : suc (length xs) - 1 ≡ length xs = omega arith in
    rw e (last_get x xs)
