-- Triggers as keys of an index.
use Rattle.std.proofs.Common.{◌≡◌, ◌<◌, ℕ, zero, suc, Bool, true, false, cond, not, ◌||◌, List, [], ◌∷◌, ◌++◌, length, get_or, Option, Some, None, refl, sym, ap, subst, ◌∙◌, true≢false, is_some, arith}
use Rattle.std.specs.Prelude.{find, filter, position, slice_get}
use Rattle.std.proofs.lemmas.List.{get_or-map, length-map}
use Rattle.std.proofs.lemmas.List.Quantifiers.{position-Some}
use Rattle.std.proofs.lemmas.Option.{none-some, same_Some, slice_get-get_or}
use Rattle.std.specs.List.{list_any, AllByRecursion, IsDistinct}
use Rattle.std.specs.Map.{lookup, keys_of}
use Rattle.std.specs.Option.{option_map}
use Rattle.am_names.specs.declared.trigger.Trigger.{Trigger}
use Rattle.am_names.specs.{same_trigger}
use Rattle.am_ordered.specs.{insert_entry, shift_remove_entry}
use Rattle.am_names.proofs.SameTriggers.{equal_by_same_trigger, same_trigger_itself}
use Rattle.am_trigger.specs.{used_in, last_use_in, AreOnce, IsUseIndex}

module _ (eq : Trigger → Trigger → Bool) (says : (a b : Trigger) → eq a b ≡ same_trigger b a) where
  -- the index says when a trigger was last used
  pub lookup_is : (trigger : Trigger) (rows : List (Trigger × ℕ)) → lookup (eq trigger) rows ≡ last_use_in rows trigger
  lookup_is trigger [] = refl
  lookup_is trigger (row ∷ rows) =
      rw (says trigger row.0) (elim (same_trigger row.0 trigger) as (λ b. cond b (Some row.1) (lookup (eq trigger) rows) ≡ option_map {T = Trigger × ℕ} (λ r. r.1) (cond b (Some row) (find (λ r. same_trigger r.0 trigger) rows))) [
        | true ↦ refl
        | false ↦ lookup_is trigger rows
      ])

  -- the index takes a use as the rows do
  pub insert_is : (trigger : Trigger) (moment : ℕ) (rows : List (Trigger × ℕ)) → insert_entry eq rows trigger moment ≡ used_in trigger moment rows
  insert_is trigger moment [] = refl
  insert_is trigger moment (row ∷ rows) =
      rw (says trigger row.0) (ap (λ (others : List (Trigger × ℕ)). cond (same_trigger row.0 trigger) ((row.0, moment) ∷ rows) (row ∷ others)) (insert_is trigger moment rows))

  -- ---- where a trigger stands in the index

  -- at the index of its key stands the trigger with its last use
  use_found : (trigger : Trigger) (rows : List (Trigger × ℕ)) (index : ℕ) → position (eq trigger) (keys_of rows) ≡ Some index → (last : ℕ) × (slice_get rows index ≡ Some (trigger, last))
  use_found trigger rows index e =
      let found = position-Some (eq trigger) (keys_of rows) index trigger e in
      let long : length (keys_of rows) ≡ length rows = length-map rows (λ (r : Trigger × ℕ). r.0) in
      let within : index < length rows = omega (arith, found.0, long) in
      let row : Trigger × ℕ = get_or rows index (trigger, 0) in
      let key : get_or (keys_of rows) index trigger ≡ row.0 = get_or-map (λ (r : Trigger × ℕ). r.0) rows index (trigger, 0) trigger within in
      let is : row.0 ≡ trigger = equal_by_same_trigger row.0 trigger (sym (says trigger row.0) ∙ ap (eq trigger) (sym key) ∙ found.1) in
      (row.1, slice_get-get_or rows index (trigger, 0) within ∙ ap (λ (g : Trigger). Some (g, row.1)) is)

  -- the index says where a trigger stands among the last uses
  pub use_index_is : (trigger : Trigger) (rows : List (Trigger × ℕ)) (index : Option ℕ) → index ≡ position (eq trigger) (keys_of rows) → is_some index ≡ is_some (lookup (eq trigger) rows) → IsUseIndex rows trigger index
  use_index_is trigger rows None is found = none_by (lookup (eq trigger) rows) refl found
    where
      none_by : (o : Option ℕ) → lookup (eq trigger) rows ≡ o → false ≡ is_some o → last_use_in rows trigger ≡ None
      none_by None e h = sym (lookup_is trigger rows) ∙ e
      none_by (Some last) e h = absurd (true≢false (sym h))
  use_index_is trigger rows (Some index) is found = use_found trigger rows index (sym is)

  equal_keys : (a b : Trigger) → a ≡ b → eq a b ≡ true
  equal_keys a b e = ap (λ (x : Trigger). eq x b) e ∙ says b b ∙ same_trigger_itself b

  none_further : (key : Trigger) (rows : List (Trigger × ℕ)) → AllByRecursion (λ k. eq key k ≡ false) (keys_of rows) → (j : ℕ) (other : Trigger × ℕ) → slice_get rows j ≡ Some other → eq key other.0 ≡ false
  none_further key [] all j other q = absurd (none-some other q)
  none_further key (row ∷ rows) all zero other q = ap (λ (x : Trigger × ℕ). eq key x.0) (sym (same_Some row other q)) ∙ all.0
  none_further key (row ∷ rows) all (suc j) other q = none_further key rows all.1 j other q

  -- an index has no key twice
  pub keys_are_once : (rows : List (Trigger × ℕ)) → IsDistinct eq (keys_of rows) → AreOnce rows
  unfolding IsDistinct
  keys_are_once [] distinct i j row other p q is = absurd (none-some row p)
  keys_are_once (r ∷ rows) distinct zero zero row other p q is = refl
  keys_are_once (r ∷ rows) distinct zero (suc j) row other p q is =
      absurd (true≢false (sym (equal_keys r.0 other.0 (ap (λ (x : Trigger × ℕ). x.0) (same_Some r row p) ∙ is)) ∙ none_further r.0 rows distinct.0 j other q))
  keys_are_once (r ∷ rows) distinct (suc i) zero row other p q is =
      absurd (true≢false (sym (equal_keys r.0 row.0 (ap (λ (x : Trigger × ℕ). x.0) (same_Some r other q) ∙ sym is)) ∙ none_further r.0 rows distinct.0 i row p))
  keys_are_once (r ∷ rows) distinct (suc i) (suc j) row other p q is = ap suc (keys_are_once rows distinct.1 i j row other p q is)

  -- ---- the directories, as the keys of an index

  -- the index says which keys it has
  pub has_key : {V : Type 0} (trigger : Trigger) (rows : List (Trigger × V)) → is_some (lookup (eq trigger) rows) ≡ list_any (λ row. same_trigger row trigger) (keys_of rows)
  has_key trigger [] = refl
  has_key trigger (row ∷ rows) = by (eq trigger row.0) refl (has_key trigger rows)
    where
      by : (b : Bool) → eq trigger row.0 ≡ b → is_some (lookup (eq trigger) rows) ≡ list_any (λ row. same_trigger row trigger) (keys_of rows) → is_some (lookup (eq trigger) (row ∷ rows)) ≡ list_any (λ row. same_trigger row trigger) (keys_of (row ∷ rows))
      by true e later = rw (e, sym (says trigger row.0) ∙ e) refl
      by false e later = rw (e, sym (says trigger row.0) ∙ e) later

  -- a key that isn't there goes last
  pub key_last : {V : Type 0} (trigger : Trigger) (value : V) (rows : List (Trigger × V)) → list_any (λ row. same_trigger row trigger) (keys_of rows) ≡ false → keys_of (insert_entry eq rows trigger value) ≡ keys_of rows ++ trigger ∷ []
  key_last trigger value [] none = refl
  key_last trigger value (row ∷ rows) none = by (same_trigger row.0 trigger) refl (key_last trigger value rows)
    where
      by : (b : Bool) → same_trigger row.0 trigger ≡ b → (list_any (λ row. same_trigger row trigger) (keys_of rows) ≡ false → keys_of (insert_entry eq rows trigger value) ≡ keys_of rows ++ trigger ∷ []) → keys_of (insert_entry eq (row ∷ rows) trigger value) ≡ row.0 ∷ (keys_of rows ++ trigger ∷ [])
      by true e later = absurd (true≢false (sym (ap (λ (b : Bool). b || list_any (λ row. same_trigger row trigger) (keys_of rows)) e) ∙ none))
      by false e later =
          rw (says trigger row.0 ∙ e, later (sym (ap (λ (b : Bool). b || list_any (λ row. same_trigger row trigger) (keys_of rows)) e) ∙ none)) refl

  -- where no key is the trigger all stay
  none_go : (trigger : Trigger) (keys : List Trigger) → AllByRecursion (λ key. eq trigger key ≡ false) keys → filter (λ row. not (same_trigger row trigger)) keys ≡ keys
  none_go trigger [] h = refl
  none_go trigger (key ∷ keys) h = rw (sym (says trigger key) ∙ h.0, none_go trigger keys h.1) refl

  -- the index gives a key up as the directories do
  pub key_gone : {V : Type 0} (trigger : Trigger) (rows : List (Trigger × V)) → IsDistinct eq (keys_of rows) → keys_of (shift_remove_entry (eq trigger) rows) ≡ filter (λ row. not (same_trigger row trigger)) (keys_of rows)
  unfolding IsDistinct
  key_gone trigger [] distinct = refl
  key_gone trigger (row ∷ rows) distinct = by (key_gone trigger rows distinct.1) (same_trigger row.0 trigger) refl
    where
      by : keys_of (shift_remove_entry (eq trigger) rows) ≡ filter (λ row. not (same_trigger row trigger)) (keys_of rows) → (b : Bool) → same_trigger row.0 trigger ≡ b →
          keys_of (shift_remove_entry (eq trigger) (row ∷ rows)) ≡ filter (λ row. not (same_trigger row trigger)) (keys_of (row ∷ rows))
      by later true e =
          let apart : AllByRecursion (λ key. eq trigger key ≡ false) (keys_of rows) = subst (λ (x : Trigger). AllByRecursion (λ key. eq x key ≡ false) (keys_of rows)) (equal_by_same_trigger row.0 trigger e) distinct.0 in
          rw (says trigger row.0 ∙ e, e) (sym (none_go trigger (keys_of rows) apart))
      by later false e = rw (says trigger row.0 ∙ e, e, later) refl
