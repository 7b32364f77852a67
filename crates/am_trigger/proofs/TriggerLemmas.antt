-- Lists in which a trigger is looked for.
use Rattle.std.proofs.Common.{◌≡◌, ℕ, Bool, true, false, cond, not, ◌&&◌, ◌||◌, List, [], ◌∷◌, ◌++◌, Some, None, refl, sym, ap, ◌∙◌}
use Rattle.std.specs.Prelude.{filter, find, if◌then◌else◌}
use Rattle.std.specs.List.{list_any}
use Rattle.std.specs.Option.{option_map}
use Rattle.am_names.specs.{same_trigger}
use Rattle.am_names.specs.declared.trigger.Trigger.{Trigger}
use Rattle.am_names.proofs.SameTriggers.{equal_by_same_trigger, same_trigger_either_way}
use Rattle.am_names.proofs.Basics.{or_false, or_assoc}
use Rattle.am_trigger.specs.{used_in, last_use_in}

-- ---- directories

pub any_last : {X : Type 0} (test : X → Bool) (xs : List X) (x : X) → list_any test (xs ++ x ∷ []) ≡ (list_any test xs || test x)
any_last test [] x = or_false (test x)
any_last test (y ∷ xs) x = ap (λ (b : Bool). test y || b) (any_last test xs x) ∙ or_assoc (test y) (list_any test xs) (test x)

absorbed : (l that : Bool) → (l && not that) ≡ ((that || l) && not that)
absorbed true true = refl
absorbed true false = refl
absorbed false true = refl
absorbed false false = refl

spread : (this l that : Bool) → (this ≡ true → that ≡ false) → (this || (l && not that)) ≡ ((this || l) && not that)
spread true l that h = rw (h refl) refl
spread false l that h = refl

-- a trigger that is one, and not the other: the two are not one
pub parted : (row trigger g : Trigger) → same_trigger row trigger ≡ false → same_trigger row g ≡ true → same_trigger trigger g ≡ false
parted row trigger g differs same =
    same_trigger_either_way trigger g ∙ ap (λ (x : Trigger). same_trigger x trigger) (sym (equal_by_same_trigger row g same)) ∙ differs

-- where one is taken away, the others are left
pub any_left : (trigger g : Trigger) (made : List Trigger) →
    list_any (λ row. same_trigger row g) (filter (λ row. not (same_trigger row trigger)) made) ≡ (list_any (λ row. same_trigger row g) made && not (same_trigger trigger g))
any_left trigger g [] = refl
any_left trigger g (row ∷ made) = left_by (any_left trigger g made) (same_trigger row trigger) refl
  where
    left_by : list_any (λ row. same_trigger row g) (filter (λ row. not (same_trigger row trigger)) made) ≡ (list_any (λ row. same_trigger row g) made && not (same_trigger trigger g)) →
        (b : Bool) → same_trigger row trigger ≡ b →
        list_any (λ row. same_trigger row g) (filter (λ row. not (same_trigger row trigger)) (row ∷ made)) ≡ (list_any (λ row. same_trigger row g) (row ∷ made) && not (same_trigger trigger g))
    left_by later true e =
        let same : same_trigger row g ≡ same_trigger trigger g = ap (λ (x : Trigger). same_trigger x g) (equal_by_same_trigger row trigger e) in
        rw (e, same) (later ∙ absorbed (list_any (λ row. same_trigger row g) made) (same_trigger trigger g))
    left_by later false e =
        rw e (ap (λ (b : Bool). same_trigger row g || b) later ∙ spread (same_trigger row g) (list_any (λ row. same_trigger row g) made) (same_trigger trigger g) (parted row trigger g e))

-- ---- last uses

-- what the first row of a trigger says is what counts
pub used_at : (trigger g : Trigger) (moment : ℕ) (rows : List (Trigger × ℕ)) →
    last_use_in (used_in trigger moment rows) g ≡ (if same_trigger trigger g then Some moment else last_use_in rows g)
used_at trigger g moment [] =
    elim (same_trigger trigger g) as (λ b. option_map {T = Trigger × ℕ} (λ row. row.1) (cond b (Some (trigger, moment)) None) ≡ cond b (Some moment) None) [
      | true ↦ refl
      | false ↦ refl
    ]
used_at trigger g moment (row ∷ rows) = used_by (used_at trigger g moment rows) (same_trigger row.0 trigger) refl
  where
    again : same_trigger row.0 g ≡ same_trigger trigger g → last_use_in ((row.0, moment) ∷ rows) g ≡ (if same_trigger trigger g then Some moment else last_use_in (row ∷ rows) g)
    again same =
        rw (← same) (elim (same_trigger row.0 g) as (λ b. option_map {T = Trigger × ℕ} (λ r. r.1) (cond b (Some (row.0, moment)) (find (λ r. same_trigger r.0 g) rows)) ≡ cond b (Some moment) (option_map {T = Trigger × ℕ} (λ r. r.1) (cond b (Some row) (find (λ r. same_trigger r.0 g) rows)))) [
          | true ↦ refl
          | false ↦ refl
        ])

    further : last_use_in (used_in trigger moment rows) g ≡ (if same_trigger trigger g then Some moment else last_use_in rows g) → (b : Bool) → same_trigger row.0 g ≡ b → same_trigger row.0 trigger ≡ false → last_use_in (row ∷ used_in trigger moment rows) g ≡ (if same_trigger trigger g then Some moment else last_use_in (row ∷ rows) g)
    further later true same differs = rw (same, parted row.0 trigger g differs same) refl
    further later false same differs = rw same later

    used_by : last_use_in (used_in trigger moment rows) g ≡ (if same_trigger trigger g then Some moment else last_use_in rows g) → (b : Bool) → same_trigger row.0 trigger ≡ b → last_use_in (used_in trigger moment (row ∷ rows)) g ≡ (if same_trigger trigger g then Some moment else last_use_in (row ∷ rows) g)
    used_by later true e = rw e (again (ap (λ (x : Trigger). same_trigger x g) (equal_by_same_trigger row.0 trigger e)))
    used_by later false e = rw e (further later (same_trigger row.0 g) refl e)
