-- Rows that are looked up by their number, and counts.
use Rattle.std.proofs.Common.{◌≡◌, ◌+◌, Bool, cond, List, [], ◌∷◌, ◌++◌, arith}
use Rattle.std.specs.List.{count_by}
use Rattle.std.proofs.lemmas.List.Sums.{sum_by-append}

pub count_cons : {X : Type 0} (test : X → Bool) (x : X) (rows : List X) → count_by test (x ∷ rows) ≡ cond (test x) 1 0 + count_by test rows
count_cons test x rows = let e = sum_by-append (λ y. cond (test y) 1 0) (x ∷ []) rows in omega (arith, e)

pub count_append : {X : Type 0} (test : X → Bool) (xs ys : List X) → count_by test (xs ++ ys) ≡ count_by test xs + count_by test ys
count_append test xs ys = sum_by-append (λ y. cond (test y) 1 0) xs ys
