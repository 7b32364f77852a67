-- The book's index, row by row.
use Rattle.std.proofs.Common.{◌≡◌, Bool, true, false, cond, not, ◌==◌, ℕ, List, [], ◌∷◌, ◌++◌, map, filter, Option, Some, None, refl, sym, ap, subst, ◌∙◌}
use Rattle.std.specs.Prelude.{find, if◌then◌else◌}
use Rattle.std.specs.List.{list_any, AllByRecursion, IsDistinct}
use Rattle.std.specs.Map.{lookup, keys_of}
use Rattle.std.specs.Option.{option_map}
use Rattle.am_ordered.specs.{insert_entry, shift_remove_entry}
use Rattle.am_names.specs.{same_trigger}
use Rattle.am_names.specs.declared.trigger.Trigger.{Trigger}
use Rattle.am_state.specs.{Record, RecordRow}
use Rattle.am_job.specs.{record_of, record_row, with_record, without_record, without_fs}
use Rattle.am_job.specs.View.{row_of, rows_of}
use Rattle.am_names.proofs.SameTriggers.{equal_by_same_trigger, same_trigger_either_way}

-- rows are left out as pairs are
pub rows_left : (keep : RecordRow → Bool) (pairs : List (Trigger × Record)) → rows_of (filter (λ pair. keep (row_of pair)) pairs) ≡ filter keep (rows_of pairs)
rows_left keep [] = refl
rows_left keep (pair ∷ pairs) =
    elim (keep (row_of pair)) as (λ b. rows_of (cond b (pair ∷ filter (λ p. keep (row_of p)) pairs) (filter (λ p. keep (row_of p)) pairs)) ≡ cond b (row_of pair ∷ filter keep (rows_of pairs)) (filter keep (rows_of pairs))) [
      | true ↦ ap (λ (rows : List RecordRow). row_of pair ∷ rows) (rows_left keep pairs)
      | false ↦ rows_left keep pairs
    ]

-- where all rows of a trigger go it has no record, and where all stay it has the same
pub record_left : (keep : RecordRow → Bool) (g : Trigger) (gone : Bool) → ((row : RecordRow) → same_trigger row.trigger g ≡ true → keep row ≡ not gone) → (rows : List RecordRow) →
    record_of (filter keep rows) g ≡ (if gone then None else record_of rows g)
record_left keep g true says [] = refl
record_left keep g false says [] = refl
record_left keep g gone says (row ∷ rows) = by (record_left keep g gone says rows) (same_trigger row.trigger g) refl
  where
    other : (b : Bool) → same_trigger row.trigger g ≡ false → record_of (filter keep rows) g ≡ (if gone then None else record_of rows g) →
        record_of (cond b (row ∷ filter keep rows) (filter keep rows)) g ≡ (if gone then None else record_of (row ∷ rows) g)
    other true differs later = rw differs later
    other false differs later = rw differs later

    this : (gone : Bool) → keep row ≡ not gone → same_trigger row.trigger g ≡ true → record_of (filter keep rows) g ≡ (if gone then None else record_of rows g) →
        record_of (filter keep (row ∷ rows)) g ≡ (if gone then None else record_of (row ∷ rows) g)
    this true kept same later = rw kept later
    this false kept same later = rw (kept, same) refl

    by : record_of (filter keep rows) g ≡ (if gone then None else record_of rows g) → (b : Bool) → same_trigger row.trigger g ≡ b →
        record_of (filter keep (row ∷ rows)) g ≡ (if gone then None else record_of (row ∷ rows) g)
    by later true same = this gone (says row same) same later
    by later false differs = other (keep row) differs later

pub removed : (trigger g : Trigger) (rows : List RecordRow) → record_of (without_record trigger rows) g ≡ (if same_trigger trigger g then None else record_of rows g)
removed trigger g rows =
    record_left (λ row. not (same_trigger row.trigger trigger)) g (same_trigger trigger g) (λ row same. ap (λ (x : Trigger). not (same_trigger x trigger)) (equal_by_same_trigger row.trigger g same) ∙ ap not (same_trigger_either_way g trigger)) rows

pub forgotten : (fs : ℕ) (g : Trigger) (rows : List RecordRow) → record_of (without_fs fs rows) g ≡ (if g.fs == fs then None else record_of rows g)
forgotten fs g rows =
    record_left (λ row. not (row.trigger.fs == fs)) g (g.fs == fs) (λ row same. ap (λ (x : Trigger). not (x.fs == fs)) (equal_by_same_trigger row.trigger g same)) rows

module _ (eq : Trigger → Trigger → Bool) (says : (a b : Trigger) → eq a b ≡ same_trigger b a) where
  -- the index says what the rows say
  pub lookup_is : (trigger : Trigger) (pairs : List (Trigger × Record)) → lookup (eq trigger) pairs ≡ record_of (rows_of pairs) trigger
  lookup_is trigger [] = refl
  lookup_is trigger (pair ∷ pairs) =
      rw (says trigger pair.0) (elim (same_trigger pair.0 trigger) as (λ b. cond b (Some pair.1) (lookup (eq trigger) pairs) ≡ option_map {T = RecordRow} (λ row. row.entry) (cond b (Some (row_of pair)) (find (λ row. same_trigger row.trigger trigger) (rows_of pairs)))) [
        | true ↦ refl
        | false ↦ lookup_is trigger pairs
      ])

  -- other triggers' rows stay
  others_stay : (trigger : Trigger) (entry : Record) (pairs : List (Trigger × Record)) → AllByRecursion (λ key. eq trigger key ≡ false) (keys_of pairs) → map (record_row trigger entry) (rows_of pairs) ≡ rows_of pairs
  others_stay trigger entry [] h = refl
  others_stay trigger entry (pair ∷ pairs) h = rw (sym (says trigger pair.0) ∙ h.0, others_stay trigger entry pairs h.1) refl

  -- the index takes a record as the rows do
  pub insert_is : (trigger : Trigger) (entry : Record) (pairs : List (Trigger × Record)) → IsDistinct eq (keys_of pairs) → rows_of (insert_entry eq pairs trigger entry) ≡ with_record trigger entry (rows_of pairs)
  unfolding IsDistinct
  insert_is trigger entry [] distinct = refl
  insert_is trigger entry (pair ∷ pairs) distinct = by (insert_is trigger entry pairs distinct.1) (eq trigger pair.0) refl
    where
      further : (b : Bool) (m a : List RecordRow) → row_of pair ∷ (if b then m else a) ≡ (if b then row_of pair ∷ m else row_of pair ∷ a)
      further true m a = refl
      further false m a = refl

      by : rows_of (insert_entry eq pairs trigger entry) ≡ with_record trigger entry (rows_of pairs) → (b : Bool) → eq trigger pair.0 ≡ b →
          rows_of (insert_entry eq (pair ∷ pairs) trigger entry) ≡ with_record trigger entry (rows_of (pair ∷ pairs))
      by later true h =
          let same : same_trigger pair.0 trigger ≡ true = sym (says trigger pair.0) ∙ h in
          let apart : AllByRecursion (λ key. eq trigger key ≡ false) (keys_of pairs) = subst (λ (x : Trigger). AllByRecursion (λ key. eq x key ≡ false) (keys_of pairs)) (equal_by_same_trigger pair.0 trigger same) distinct.0 in
          rw (h, same) (ap (λ (rows : List RecordRow). row_of (pair.0, entry) ∷ rows) (sym (others_stay trigger entry pairs apart)))
      by later false h =
          let differs : same_trigger pair.0 trigger ≡ false = sym (says trigger pair.0) ∙ h in
          rw (h, differs) (ap (λ (rows : List RecordRow). row_of pair ∷ rows) later ∙ further (list_any (λ row. same_trigger row.trigger trigger) (rows_of pairs)) (map (record_row trigger entry) (rows_of pairs)) (rows_of pairs ++ (record { trigger = trigger; entry = entry }) ∷ []))

  -- no row of another trigger goes
  none_go : (trigger : Trigger) (pairs : List (Trigger × Record)) → AllByRecursion (λ key. eq trigger key ≡ false) (keys_of pairs) → without_record trigger (rows_of pairs) ≡ rows_of pairs
  none_go trigger [] h = refl
  none_go trigger (pair ∷ pairs) h = rw (sym (says trigger pair.0) ∙ h.0, none_go trigger pairs h.1) refl

  -- the index gives a record up as the rows do
  pub remove_is : (trigger : Trigger) (pairs : List (Trigger × Record)) → IsDistinct eq (keys_of pairs) → rows_of (shift_remove_entry (eq trigger) pairs) ≡ without_record trigger (rows_of pairs)
  unfolding IsDistinct
  remove_is trigger [] distinct = refl
  remove_is trigger (pair ∷ pairs) distinct = by (remove_is trigger pairs distinct.1) (eq trigger pair.0) refl
    where
      by : rows_of (shift_remove_entry (eq trigger) pairs) ≡ without_record trigger (rows_of pairs) → (b : Bool) → eq trigger pair.0 ≡ b →
          rows_of (shift_remove_entry (eq trigger) (pair ∷ pairs)) ≡ without_record trigger (rows_of (pair ∷ pairs))
      by later true h =
          let same : same_trigger pair.0 trigger ≡ true = sym (says trigger pair.0) ∙ h in
          let apart : AllByRecursion (λ key. eq trigger key ≡ false) (keys_of pairs) = subst (λ (x : Trigger). AllByRecursion (λ key. eq x key ≡ false) (keys_of pairs)) (equal_by_same_trigger pair.0 trigger same) distinct.0 in
          rw (h, same) (sym (none_go trigger pairs apart))
      by later false h =
          let differs : same_trigger pair.0 trigger ≡ false = sym (says trigger pair.0) ∙ h in
          rw (h, differs) (ap (λ (rows : List RecordRow). row_of pair ∷ rows) later)

  -- what the index says after a change of one key, the rows say
  pub recorded_is : (trigger g : Trigger) (entry : Option Record) (old new : List (Trigger × Record)) → lookup (eq g) new ≡ cond (eq trigger g) entry (lookup (eq g) old) → record_of (rows_of new) g ≡ (if same_trigger trigger g then entry else record_of (rows_of old) g)
  recorded_is trigger g entry old new h =
      sym (lookup_is g new) ∙ h
      ∙ ap (λ (b : Bool). cond b entry (lookup (eq g) old)) (says trigger g ∙ same_trigger_either_way g trigger)
      ∙ ap (λ (r : Option Record). cond (same_trigger trigger g) entry r) (lookup_is g old)
