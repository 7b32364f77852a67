-- Rows in an index by their keys.
use Rattle.std.proofs.Common.{◌≡◌, ℕ, Bool, true, false, ◌||◌, cond, List, [], ◌∷◌, ◌++◌, refl, ap, ◌∙◌}
use Rattle.std.specs.Prelude.{is_some, Some, find}
use Rattle.std.specs.Option.{option_map}
use Rattle.std.specs.Str.{bytes_eq}
use Rattle.std.specs.List.{list_any}
use Rattle.std.specs.Map.{lookup}
use Rattle.indexmap.specs.IndexMap.{insert_entry}
use Rattle.am_map.specs.EntryText.{EntryText}
use Rattle.am_map.specs.{Row, has_key, rows_by, row_added}
use Rattle.am_names.proofs.Basics.{neither_of_or}

module _ {K : Type 0} (bytes : K → List ℕ) where
  -- the index finds a key where a row has it
  pub found_is : (key : List ℕ) (pairs : List (K × EntryText)) → is_some (lookup (λ k. bytes_eq key (bytes k)) pairs) ≡ list_any (has_key key) (rows_by bytes pairs)
  found_is key [] = refl
  found_is key (pair ∷ pairs) =
      elim (bytes_eq key (bytes pair.0)) as (λ b. is_some (cond b (Some pair.1) (lookup (λ k. bytes_eq key (bytes k)) pairs)) ≡ (b || list_any (has_key key) (rows_by bytes pairs))) [
        | true ↦ refl
        | false ↦ found_is key pairs
      ]

  -- a key that no row has goes last
  pub insert_new : (eq : K → K → Bool) → ((x y : K) → eq x y ≡ bytes_eq (bytes x) (bytes y)) → (key : List ℕ) (pairs : List (K × EntryText)) (k : K) (entry : EntryText) →
      bytes k ≡ key → list_any (has_key key) (rows_by bytes pairs) ≡ false →
      rows_by bytes (insert_entry eq pairs k entry) ≡ rows_by bytes pairs ++ record { key = key; entry = entry } ∷ []
  insert_new eq says key [] k entry e none = rw e refl
  insert_new eq says key (pair ∷ pairs) k entry e none =
      let differs : eq k pair.0 ≡ false = says k pair.0 ∙ ap (λ (b : List ℕ). bytes_eq b (bytes pair.0)) e ∙ (neither_of_or _ _ none).0 in
      rw differs (ap (λ (rows : List Row). record { key = bytes pair.0; entry = pair.1 } ∷ rows) (insert_new eq says key pairs k entry e (neither_of_or _ _ none).1))

pub row_added-there : (rows : List Row) (row : Row) → list_any (has_key row.key) rows ≡ true → row_added rows row ≡ rows
row_added-there rows row there = rw there refl

pub row_added-new : (rows : List Row) (row : Row) → list_any (has_key row.key) rows ≡ false → row_added rows row ≡ rows ++ row ∷ []
row_added-new rows row none = rw none refl

-- what the index looks up is the entry of the first row with the key
module _ {K : Type 0} (bytes : K → List ℕ) where
  pub lookup_is : (key : List ℕ) (pairs : List (K × EntryText)) → lookup (λ k. bytes_eq key (bytes k)) pairs ≡ option_map {T = Row} (λ row. row.entry) (find (has_key key) (rows_by bytes pairs))
  lookup_is key [] = refl
  lookup_is key (pair ∷ pairs) =
      elim (bytes_eq key (bytes pair.0)) as (λ b. cond b (Some pair.1) (lookup (λ k. bytes_eq key (bytes k)) pairs) ≡ option_map {T = Row} (λ row. row.entry) (cond b (Some (record { key = bytes pair.0; entry = pair.1 })) (find (has_key key) (rows_by bytes pairs)))) [
        | true ↦ refl
        | false ↦ lookup_is key pairs
      ]
