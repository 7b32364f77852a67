-- Texts in an index.
use Rattle.std.proofs.Common.{◌≡◌, ℕ, Bool, true, false, ◌||◌, cond, List, [], ◌∷◌, ◌++◌, map, refl, ap, ◌∙◌}
use Rattle.std.specs.Prelude.{is_some, Some}
use Rattle.std.specs.Str.{bytes_eq}
use Rattle.std.specs.List.{list_any}
use Rattle.std.specs.Map.{lookup}
use Rattle.indexmap.specs.IndexMap.{insert_entry}
use Rattle.am_names.proofs.Basics.{neither_of_or}
use Rattle.am_master.specs.{Placed}

module _ {K : Type 0} (bytes : K → List ℕ) where
  -- the index finds a text that one of its keys is
  pub found_is : (text : List ℕ) (pairs : List (K × ℕ)) → is_some (lookup (λ k. bytes_eq text (bytes k)) pairs) ≡ list_any (λ (p : Placed). bytes_eq text p.0) (map (λ e. (bytes e.0, e.1)) pairs)
  found_is text [] = refl
  found_is text (pair ∷ pairs) =
      elim (bytes_eq text (bytes pair.0)) as (λ b. is_some (cond b (Some pair.1) (lookup (λ k. bytes_eq text (bytes k)) pairs)) ≡ (b || list_any (λ (p : Placed). bytes_eq text p.0) (map (λ e. (bytes e.0, e.1)) pairs))) [
        | true ↦ refl
        | false ↦ found_is text pairs
      ]

  -- what the index has at a text
  pub lookup_is : (text : List ℕ) (pairs : List (K × ℕ)) → lookup (λ k. bytes_eq text (bytes k)) pairs ≡ lookup (bytes_eq text) (map (λ e. (bytes e.0, e.1)) pairs)
  lookup_is text [] = refl
  lookup_is text (pair ∷ pairs) =
      elim (bytes_eq text (bytes pair.0)) as (λ b. cond b (Some pair.1) (lookup (λ k. bytes_eq text (bytes k)) pairs) ≡ cond b (Some pair.1) (lookup (bytes_eq text) (map (λ e. (bytes e.0, e.1)) pairs))) [
        | true ↦ refl
        | false ↦ lookup_is text pairs
      ]

  -- a new key goes last
  pub insert_new : (eq : K → K → Bool) → ((x y : K) → eq x y ≡ bytes_eq (bytes x) (bytes y)) → (text : List ℕ) (pairs : List (K × ℕ)) (k : K) (at : ℕ) →
      bytes k ≡ text → list_any (λ (p : Placed). bytes_eq text p.0) (map (λ e. (bytes e.0, e.1)) pairs) ≡ false →
      map {B = Placed} (λ e. (bytes e.0, e.1)) (insert_entry eq pairs k at) ≡ map (λ e. (bytes e.0, e.1)) pairs ++ (text, at) ∷ []
  insert_new eq says text [] k at e none = rw e refl
  insert_new eq says text (pair ∷ pairs) k at e none =
      let differs : eq k pair.0 ≡ false = says k pair.0 ∙ ap (λ (b : List ℕ). bytes_eq b (bytes pair.0)) e ∙ (neither_of_or _ _ none).0 in
      rw differs (ap (λ (points : List Placed). (bytes pair.0, pair.1) ∷ points) (insert_new eq says text pairs k at e (neither_of_or _ _ none).1))
