-- Rows that are those of some numbers, as they go together in pairs.
use Rattle.std.proofs.Common.{◌≡◌, ℕ, Bool, true, false, List, [], ◌∷◌, length, refl, sym, ap, ◌∙◌, arith}
use Rattle.std.specs.Prelude.{map, zip, ◌==◌}
use Rattle.std.specs.Bool.{OnTrue}
use Rattle.std.specs.List.{list_all}
use Rattle.std.proofs.lemmas.Bool.{eqb-true, and_parts}

module _ {R : Type 0} (number : R → ℕ) where
  -- rows and numbers that are the same in pairs
  paired :
      (rows : List R) (numbers : List ℕ) → length rows ≡ length numbers →
      list_all (λ (pair : R × ℕ). number pair.0 == pair.1) (zip rows numbers) ≡ true →
      map number rows ≡ numbers
  paired [] [] long same = refl
  paired [] (n ∷ numbers) long same = absurd (omega arith)
  paired (row ∷ rows) [] long same = absurd (omega arith)
  paired (row ∷ rows) (n ∷ numbers) long same =
      let parts = and_parts (number row == n) _ same in
      ap (λ (k : ℕ). k ∷ map number rows) (eqb-true (number row) n parts.0) ∙
      ap (λ (ks : List ℕ). n ∷ ks) (paired rows numbers (omega arith) parts.1)

  -- where the test of the pairs says so, they are the rows of the numbers
  pub pairs_are :
      (rows : List R) (numbers : List ℕ) → length rows ≡ length numbers → (b : Bool) →
      b ≡ list_all (λ (pair : R × ℕ). number pair.0 == pair.1) (zip rows numbers) →
      OnTrue b (map number rows ≡ numbers)
  pairs_are rows numbers long true same = paired rows numbers long (sym same)
  pairs_are rows numbers long false same = tt
