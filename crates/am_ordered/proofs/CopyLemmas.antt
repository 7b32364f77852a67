-- A copy, row by row.
use Rattle.std.proofs.Common.{◌≡◌, ℕ, zero, suc, Bool, false, List, [], ◌∷◌, ◌++◌, ◌+◌, take, slice_get, None, Some, refl, sym, ap, ◌∙◌, arith}
use Rattle.std.specs.Cmp.{IsEquivalence}
use Rattle.std.specs.List.{IsDistinct, AllByRecursion}
use Rattle.std.specs.Map.{keys_of, lookup}
use Rattle.std.proofs.lemmas.Option.{same_Some, none-some}

module _ {X : Type 0} where
  taken : (rows : List X) (i : ℕ) (row : X) → slice_get rows i ≡ Some row → take (suc i) rows ≡ take i rows ++ row ∷ []
  taken [] i row there = absurd (none-some row there)
  taken (first ∷ rows) zero row there = ap (λ r. r ∷ []) (same_Some first row there)
  taken (first ∷ rows) (suc i) row there = ap (λ more. first ∷ more) (taken rows i row there)

  all_taken : (rows : List X) (i : ℕ) → slice_get rows i ≡ None → take (suc i) rows ≡ take i rows
  all_taken [] zero none = refl
  all_taken [] (suc i) none = refl
  all_taken (first ∷ rows) zero none = absurd (none-some first (sym none))
  all_taken (first ∷ rows) (suc i) none = ap (λ more. first ∷ more) (all_taken rows i none)

  -- those before a row, and the row
  pub row_taken : (rows : List X) (i : ℕ) (row : X) → slice_get rows i ≡ Some row → take (i + 1) rows ≡ take i rows ++ row ∷ []
  row_taken rows i row there =
      let next : i + 1 ≡ suc i = omega arith in
      ap (λ (n : ℕ). take n rows) next ∙ taken rows i row there

  -- where no row is behind them, those before are all
  pub none_taken : (rows : List X) (i : ℕ) → slice_get rows i ≡ None → take (i + 1) rows ≡ take i rows
  none_taken rows i none =
      let next : i + 1 ≡ suc i = omega arith in
      ap (λ (n : ℕ). take n rows) next ∙ all_taken rows i none

module _ {K V : Type 0} (eq : K → K → Bool) (laws : IsEquivalence eq) where
  apart : (key : K) (rows : List (K × V)) (i : ℕ) (row : K × V) → AllByRecursion (λ y. eq key y ≡ false) (keys_of rows) → slice_get rows i ≡ Some row → eq row.0 key ≡ false
  apart key [] i row all there = absurd (none-some row there)
  apart key (first ∷ rows) zero row all there =
      laws.symm row.0 key ∙ ap (λ (r : K × V). eq key r.0) (sym (same_Some first row there)) ∙ all.0
  apart key (first ∷ rows) (suc i) row all there = apart key rows i row all.1 there

  -- no row before it has its key
  pub is_new : (rows : List (K × V)) (i : ℕ) (row : K × V) → IsDistinct eq (keys_of rows) → slice_get rows i ≡ Some row → lookup (eq row.0) (take i rows) ≡ None
  unfolding IsDistinct
  is_new [] i row distinct there = absurd (none-some row there)
  is_new (first ∷ rows) zero row distinct there = refl
  is_new (first ∷ rows) (suc i) row distinct there =
      rw (apart first.0 rows i row distinct.0 there) (is_new rows i row distinct.1 there)
