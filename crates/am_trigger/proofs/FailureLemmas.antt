-- The failures, row by row.
use Rattle.std.proofs.Common.{◌≡◌, ◌<◌, ◌≤◌, zero, suc, length, take, drop, remove, slice_get, IfSome, arith, Bool, true, false, cond, not, ◌==◌, ℕ, List, [], ◌∷◌, ◌++◌, Option, Some, None, refl, sym, ap, subst, ◌∙◌, is_some}
use Rattle.std.specs.Prelude.{find, filter, if◌then◌else◌}
use Rattle.std.specs.List.{AllByRecursion, IsDistinct}
use Rattle.std.specs.Map.{lookup, keys_of}
use Rattle.std.specs.Option.{option_map}
use Rattle.am_ordered.specs.{insert_entry, shift_remove_entry}
use Rattle.am_names.specs.{same_trigger}
use Rattle.am_names.specs.declared.trigger.Trigger.{Trigger}
use Rattle.am_trigger.specs.{Failure, FailureRows, failure_of, with_failure, without_failure, without_failures}
use Rattle.am_names.proofs.SameTriggers.{equal_by_same_trigger, same_trigger_either_way}

-- where all rows of a trigger go nothing failed there, and where all stay the same did
pub failure_left : (keep : (Trigger × Failure) → Bool) (g : Trigger) (gone : Bool) → ((row : Trigger × Failure) → same_trigger row.0 g ≡ true → keep row ≡ not gone) → (rows : FailureRows) →
    failure_of (filter keep rows) g ≡ (if gone then None else failure_of rows g)
failure_left keep g true says [] = refl
failure_left keep g false says [] = refl
failure_left keep g gone says (row ∷ rows) = by (failure_left keep g gone says rows) (same_trigger row.0 g) refl
  where
    other : (b : Bool) → same_trigger row.0 g ≡ false → failure_of (filter keep rows) g ≡ (if gone then None else failure_of rows g) →
        failure_of (cond b (row ∷ filter keep rows) (filter keep rows)) g ≡ (if gone then None else failure_of (row ∷ rows) g)
    other true differs later = rw differs later
    other false differs later = rw differs later

    this : (gone : Bool) → keep row ≡ not gone → same_trigger row.0 g ≡ true → failure_of (filter keep rows) g ≡ (if gone then None else failure_of rows g) →
        failure_of (filter keep (row ∷ rows)) g ≡ (if gone then None else failure_of (row ∷ rows) g)
    this true kept same later = rw kept later
    this false kept same later = rw (kept, same) refl

    by : failure_of (filter keep rows) g ≡ (if gone then None else failure_of rows g) → (b : Bool) → same_trigger row.0 g ≡ b →
        failure_of (filter keep (row ∷ rows)) g ≡ (if gone then None else failure_of (row ∷ rows) g)
    by later true same = this gone (says row same) same later
    by later false differs = other (keep row) differs later

pub removed : (trigger g : Trigger) (rows : FailureRows) → failure_of (without_failure trigger rows) g ≡ (if same_trigger trigger g then None else failure_of rows g)
removed trigger g rows =
    failure_left (λ row. not (same_trigger row.0 trigger)) g (same_trigger trigger g) (λ row same. ap (λ (x : Trigger). not (same_trigger x trigger)) (equal_by_same_trigger row.0 g same) ∙ ap not (same_trigger_either_way g trigger)) rows

pub mended : (fs : ℕ) (g : Trigger) (rows : FailureRows) → failure_of (without_failures fs rows) g ≡ (if g.fs == fs then None else failure_of rows g)
mended fs g rows =
    failure_left (λ row. not (row.0.fs == fs)) g (g.fs == fs) (λ row same. ap (λ (x : Trigger). not (x.fs == fs)) (equal_by_same_trigger row.0 g same)) rows

-- the last row counts where none before it is of the trigger
last_of : (trigger g : Trigger) (failure : Failure) (rows : FailureRows) → failure_of (rows ++ (trigger, failure) ∷ []) g ≡ (if is_some (failure_of rows g) then failure_of rows g else (if same_trigger trigger g then Some failure else None))
last_of trigger g failure [] = elim (same_trigger trigger g) as (λ b. option_map {T = Trigger × Failure} (λ row. row.1) (cond b (Some (trigger, failure)) None) ≡ cond b (Some failure) None) [
  | true ↦ refl
  | false ↦ refl
]
last_of trigger g failure (row ∷ rows) = by (same_trigger row.0 g) refl (last_of trigger g failure rows)
  where
    by : (b : Bool) → same_trigger row.0 g ≡ b → (failure_of (rows ++ (trigger, failure) ∷ []) g ≡ (if is_some (failure_of rows g) then failure_of rows g else (if same_trigger trigger g then Some failure else None))) →
        failure_of (row ∷ (rows ++ (trigger, failure) ∷ [])) g ≡ (if is_some (failure_of (row ∷ rows) g) then failure_of (row ∷ rows) g else (if same_trigger trigger g then Some failure else None))
    by true e later = rw e refl
    by false e later = rw e later

pub failure_after_put : (trigger g : Trigger) (failure : Failure) (rows : FailureRows) → failure_of (with_failure trigger failure rows) g ≡ (if same_trigger trigger g then Some failure else failure_of rows g)
failure_after_put trigger g failure rows =
    last_of trigger g failure (without_failure trigger rows)
    ∙ ap (λ (o : Option Failure). if is_some o then o else (if same_trigger trigger g then Some failure else None)) (removed trigger g rows)
    ∙ either (same_trigger trigger g) (failure_of rows g)
  where
    either : (b : Bool) (o : Option Failure) → (if is_some (if b then None else o) then (if b then None else o) else (if b then Some failure else None)) ≡ (if b then Some failure else o)
    either true o = refl
    either false (Some f) = refl
    either false None = refl

module _ (eq : Trigger → Trigger → Bool) (says : (a b : Trigger) → eq a b ≡ same_trigger b a) where
  -- the index says what the rows say
  pub failure_is : (trigger : Trigger) (rows : FailureRows) → lookup (eq trigger) rows ≡ failure_of rows trigger
  failure_is trigger [] = refl
  failure_is trigger (row ∷ rows) =
      rw (says trigger row.0) (elim (same_trigger row.0 trigger) as (λ b. cond b (Some row.1) (lookup (eq trigger) rows) ≡ option_map {T = Trigger × Failure} (λ r. r.1) (cond b (Some row) (find (λ r. same_trigger r.0 trigger) rows))) [
        | true ↦ refl
        | false ↦ failure_is trigger rows
      ])

  -- no row of another trigger goes
  none_go : (trigger : Trigger) (rows : FailureRows) → AllByRecursion (λ key. eq trigger key ≡ false) (keys_of rows) → without_failure trigger rows ≡ rows
  none_go trigger [] h = refl
  none_go trigger (row ∷ rows) h = rw (sym (says trigger row.0) ∙ h.0, none_go trigger rows h.1) refl

  -- the index gives a failure up as the rows do
  pub remove_is : (trigger : Trigger) (rows : FailureRows) → IsDistinct eq (keys_of rows) → shift_remove_entry (eq trigger) rows ≡ without_failure trigger rows
  unfolding IsDistinct
  remove_is trigger [] distinct = refl
  remove_is trigger (row ∷ rows) distinct = by (remove_is trigger rows distinct.1) (eq trigger row.0) refl
    where
      by : shift_remove_entry (eq trigger) rows ≡ without_failure trigger rows → (b : Bool) → eq trigger row.0 ≡ b →
          shift_remove_entry (eq trigger) (row ∷ rows) ≡ without_failure trigger (row ∷ rows)
      by later true h =
          let same : same_trigger row.0 trigger ≡ true = sym (says trigger row.0) ∙ h in
          let apart : AllByRecursion (λ key. eq trigger key ≡ false) (keys_of rows) = subst (λ (x : Trigger). AllByRecursion (λ key. eq x key ≡ false) (keys_of rows)) (equal_by_same_trigger row.0 trigger same) distinct.0 in
          rw (h, same) (sym (none_go trigger rows apart))
      by later false h =
          let differs : same_trigger row.0 trigger ≡ false = sym (says trigger row.0) ∙ h in
          rw (h, differs) (ap (λ (others : FailureRows). row ∷ others) later)

  -- where no row is of the trigger the index takes its failure last
  pub insert_is : (trigger : Trigger) (failure : Failure) (rows : FailureRows) → insert_entry eq (without_failure trigger rows) trigger failure ≡ with_failure trigger failure rows
  insert_is trigger failure [] = refl
  insert_is trigger failure (row ∷ rows) = by (same_trigger row.0 trigger) refl (insert_is trigger failure rows)
    where
      by : (b : Bool) → same_trigger row.0 trigger ≡ b → insert_entry eq (without_failure trigger rows) trigger failure ≡ with_failure trigger failure rows →
          insert_entry eq (without_failure trigger (row ∷ rows)) trigger failure ≡ with_failure trigger failure (row ∷ rows)
      by true e later = rw e later
      by false e later = rw (e, says trigger row.0 ∙ e) (ap (λ (others : FailureRows). row ∷ others) later)

-- ---- rows that go from the last to the first

-- what is at an index, with what is before it and behind it
record IsCut {X : Type 0} (xs more : List X) (i : ℕ) : Type 0 where
  pub at : X
  pub is : slice_get (take (suc i) xs ++ more) i ≡ Some at
  pub gone : remove (take (suc i) xs ++ more) i ≡ take i xs ++ more
  pub kept : take (suc i) xs ++ more ≡ take i xs ++ at ∷ more
  pub rest : drop i xs ≡ at ∷ drop (suc i) xs

cut : {X : Type 0} (xs more : List X) (i : ℕ) → i < length xs → IsCut xs more i
cut [] more i h = absurd (omega arith)
cut (x ∷ xs) more zero h = record { at = x; is = refl; gone = refl; kept = refl; rest = refl }
cut {X} (x ∷ xs) more (suc i) h =
    let c = cut xs more i (omega arith) in
    record { at = c.at; is = c.is; gone = ap (λ (ys : List X). x ∷ ys) c.gone; kept = ap (λ (ys : List X). x ∷ ys) c.kept; rest = c.rest }

-- one more is looked at
pub left_out_more : {X : Type 0} (goes : X → Bool) (xs old new : List X) (i n : ℕ) → n ≡ suc i → n ≤ length xs → old ≡ take n xs ++ filter (λ x. not (goes x)) (drop n xs) →
    IfSome (slice_get old i) (λ x. new ≡ (if goes x then remove old i else old)) → new ≡ take i xs ++ filter (λ x. not (goes x)) (drop i xs)
left_out_more {X} goes xs old new i n step within was says = by (goes c.at) refl
  where
    more : List X
    more = filter (λ x. not (goes x)) (drop (suc i) xs)

    c : IsCut xs more i
    c = cut xs more i (omega arith)

    is : old ≡ take (suc i) xs ++ more
    is = was ∙ ap (λ (k : ℕ). take k xs ++ filter (λ x. not (goes x)) (drop k xs)) step

    here : slice_get old i ≡ Some c.at
    here = ap (λ (ys : List X). slice_get ys i) is ∙ c.is

    change : new ≡ (if goes c.at then remove old i else old)
    change = subst (λ (o : Option X). IfSome o (λ x. new ≡ (if goes x then remove old i else old))) here says

    by : (b : Bool) → goes c.at ≡ b → new ≡ take i xs ++ filter (λ x. not (goes x)) (drop i xs)
    by true e =
        rw (c.rest, e) (change ∙ ap (λ (b : Bool). cond b (remove old i) old) e ∙ ap (λ (ys : List X). remove ys i) is ∙ c.gone)
    by false e =
        rw (c.rest, e) (change ∙ ap (λ (b : Bool). cond b (remove old i) old) e ∙ is ∙ c.kept)
