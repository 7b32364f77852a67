-- Two lists, row by row.
use Rattle.std.proofs.Common.{◌≡◌, ℕ, zero, suc, List, [], ◌∷◌, ◌+◌, take, map, slice_get, refl, sym, ap, ◌∙◌, arith}
use Rattle.std.proofs.lemmas.Option.{same_Some, none-some}

module _ {X : Type 0} where
  taken_alike : (xs ys : List X) (i : ℕ) → take i xs ≡ take i ys → slice_get xs i ≡ slice_get ys i → take (suc i) xs ≡ take (suc i) ys
  taken_alike [] [] i h e = refl
  taken_alike [] (y ∷ ys) zero h e = absurd (none-some y e)
  taken_alike [] (y ∷ ys) (suc i) h e = absurd cc
  taken_alike (x ∷ xs) [] zero h e = absurd (none-some x (sym e))
  taken_alike (x ∷ xs) [] (suc i) h e = absurd cc
  taken_alike (x ∷ xs) (y ∷ ys) zero h e = ap (λ row. row ∷ []) (same_Some x y e)
  taken_alike (x ∷ xs) (y ∷ ys) (suc i) h e =
      let first : x ≡ y = cc in
      let before : take i xs ≡ take i ys = cc in
      let others : take (suc i) xs ≡ take (suc i) ys = taken_alike xs ys i before e in
      cc

  -- those before a row are the same, and so is the row
  pub one_more_alike : (xs ys : List X) (i : ℕ) → take i xs ≡ take i ys → slice_get xs i ≡ slice_get ys i → take (i + 1) xs ≡ take (i + 1) ys
  one_more_alike xs ys i h e =
      let next : i + 1 ≡ suc i = omega arith in
      ap (λ (n : ℕ). take n xs) next ∙ taken_alike xs ys i h e ∙ ap (λ (n : ℕ). take n ys) (sym next)

-- rows that come from entries which they tell are the same where these are
module _ {X Y : Type 0} (row : X → Y) (entry : Y → X) (back : (x : X) → entry (row x) ≡ x) where
  all_back : (xs : List X) → map entry (map row xs) ≡ xs
  all_back [] = refl
  all_back (x ∷ xs) = ap (λ (e : X). e ∷ map entry (map row xs)) (back x) ∙ ap (λ (es : List X). x ∷ es) (all_back xs)

  pub known_by_rows : (xs ys : List X) → map row xs ≡ map row ys → xs ≡ ys
  known_by_rows xs ys same = sym (all_back xs) ∙ ap (map entry) same ∙ all_back ys
