-- Of a list some go, from the last to the first.
use Rattle.std.proofs.Common.{◌≡◌, ◌<◌, ◌≤◌, zero, suc, length, take, drop, remove, slice_get, IfSome, arith, Bool, true, false, cond, not, ℕ, List, [], ◌∷◌, ◌++◌, filter, Option, Some, refl, ap, subst, ◌∙◌}
use Rattle.std.specs.Prelude.{if◌then◌else◌}

-- what is at an index, with what is before it and behind it
pub record IsCut {X : Type 0} (xs more : List X) (i : ℕ) : Type 0 where
  pub at : X
  pub is : slice_get (take (suc i) xs ++ more) i ≡ Some at
  pub gone : remove (take (suc i) xs ++ more) i ≡ take i xs ++ more
  pub kept : take (suc i) xs ++ more ≡ take i xs ++ at ∷ more
  pub rest : drop i xs ≡ at ∷ drop (suc i) xs

cut : {X : Type 0} (xs more : List X) (i : ℕ) → i < length xs → IsCut xs more i
cut [] more i h = absurd (omega arith)
cut (x ∷ xs) more zero h = record { at = x; is = refl; gone = refl; kept = refl; rest = refl }
cut {X} (x ∷ xs) more (suc i) h =
    let c = cut xs more i (omega arith) in
    record { at = c.at; is = c.is; gone = ap (λ (ys : List X). x ∷ ys) c.gone; kept = ap (λ (ys : List X). x ∷ ys) c.kept; rest = c.rest }

-- one more is looked at
pub left_out_more : {X : Type 0} (goes : X → Bool) (xs old new : List X) (i n : ℕ) → n ≡ suc i → n ≤ length xs → old ≡ take n xs ++ filter (λ x. not (goes x)) (drop n xs) →
    IfSome (slice_get old i) (λ x. new ≡ (if goes x then remove old i else old)) → new ≡ take i xs ++ filter (λ x. not (goes x)) (drop i xs)
left_out_more {X} goes xs old new i n step within was says = by (goes c.at) refl
  where
    more : List X
    more = filter (λ x. not (goes x)) (drop (suc i) xs)

    c : IsCut xs more i
    c = cut xs more i (omega arith)

    is : old ≡ take (suc i) xs ++ more
    is = was ∙ ap (λ (k : ℕ). take k xs ++ filter (λ x. not (goes x)) (drop k xs)) step

    here : slice_get old i ≡ Some c.at
    here = ap (λ (ys : List X). slice_get ys i) is ∙ c.is

    change : new ≡ (if goes c.at then remove old i else old)
    change = subst (λ (o : Option X). IfSome o (λ x. new ≡ (if goes x then remove old i else old))) here says

    by : (b : Bool) → goes c.at ≡ b → new ≡ take i xs ++ filter (λ x. not (goes x)) (drop i xs)
    by true e =
        rw (c.rest, e) (change ∙ ap (λ (b : Bool). cond b (remove old i) old) e ∙ ap (λ (ys : List X). remove ys i) is ∙ c.gone)
    by false e =
        rw (c.rest, e) (change ∙ ap (λ (b : Bool). cond b (remove old i) old) e ∙ is ∙ c.kept)
