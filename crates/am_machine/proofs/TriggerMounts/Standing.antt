-- A daemon that attaches again writes down what is mounted on the triggers.
use Rattle.std.proofs.Common.{◌≡◌, ℕ, Bool, true, false, cond, List, [], ◌∷◌, ◌++◌, Option, Some, None, refl, sym, ap, subst, ◌∙◌, ◌⊎◌, inl, inr}
use Rattle.std.specs.Prelude.{◌==◌, ◌&&◌, ◌||◌, if◌then◌else◌}
use Rattle.std.specs.List.{flat_map, list_any, All}
use Rattle.std.proofs.lemmas.Bool.{and_parts}
use Rattle.std.proofs.lemmas.List.Folds.{list_any-append}
use Rattle.std.proofs.lemmas.List.Elements.{All-nil, All-cons, All-head, All-tail, All-append}
use Rattle.am_names.specs.{same_trigger, MountRow, Position}
use Rattle.am_names.specs.declared.trigger.Trigger.{Trigger}
use Rattle.am_state.specs.declared.daemon_row.Record.TheVariants.{Mounted}
use Rattle.am_state.specs.{RecordRow}
use Rattle.am_group.specs.{is_just}
use Rattle.am_group.proofs.ScanLemmas.{just_same}
use Rattle.am_job.specs.{record_of, with_record}
use Rattle.am_names.proofs.SameTriggers.{equal_by_same_trigger, same_trigger_itself}
use Rattle.am_names.proofs.Basics.{equal_to_itself, equal_by_test, or_left, or_right, some_injective, value_where_some, found_passes, and_of_both}
use Rattle.am_mount.specs.{mount_row, top_of}
use Rattle.am_trigger.specs.{Autofs, autofs_of, trigger_in, place_of}
use Rattle.am_kernel.specs.{KernelState, location_in, mounted_on, is_top_of, trigger_at, standing_on, standing_row, standing_of, standing_in, standing}
use Rattle.am_daemon.specs.{all_mounted, mounted_in}
use Rattle.am_machine.specs.{PlacesAgree, OnTriggers}
use Rattle.am_machine.proofs.Places.Left.{its_number}
use Rattle.am_machine.proofs.Books.Pending.{recorded_is}
use Rattle.am_machine.proofs.TriggerMounts.Tops.{top_there}
use Rattle.am_machine.proofs.TriggerMounts.Mounts.{trigger_same}

-- ---- what is written down, one after another

-- what each row says of the trigger is the same
abbrev pub Says : Trigger → Option ℕ → Trigger × ℕ → Type 0
Says g what one = same_trigger one.0 g ≡ true → what ≡ Some one.1

written : (g : Trigger) (one : Trigger × ℕ) (book : List RecordRow) (b : Bool) → same_trigger one.0 g ≡ b → record_of (with_record one.0 (Mounted one.1) book) g ≡ (if b then Some (Mounted one.1) else record_of book g)
written g one book b is = recorded_is one.0 (Some (Mounted one.1)) book g ∙ ap (λ (t : Bool). if t then Some (Mounted one.1) else record_of book g) is

pub all_say : (g : Trigger) (what : Option ℕ) (rows : List (Trigger × ℕ)) (book : List RecordRow) → All (Says g what) rows → (mounted_in (record_of book g) ≡ what) ⊎ (list_any (λ (one : Trigger × ℕ). same_trigger one.0 g) rows ≡ true) →
    mounted_in (record_of (all_mounted rows book) g) ≡ what
all_say g what [] book says (inl h) = h
all_say g what [] book says (inr h) = absurd cc
all_say g what (one ∷ rows) book says h = all_say g what rows (with_record one.0 (Mounted one.1) book) (All-tail (Says g what) one rows says) (by (same_trigger one.0 g) refl h)
  where
    by : (b : Bool) → same_trigger one.0 g ≡ b → (mounted_in (record_of book g) ≡ what) ⊎ ((b || list_any (λ (o : Trigger × ℕ). same_trigger o.0 g) rows) ≡ true) →
        (mounted_in (record_of (with_record one.0 (Mounted one.1) book) g) ≡ what) ⊎ (list_any (λ (o : Trigger × ℕ). same_trigger o.0 g) rows ≡ true)
    by true is h = inl (ap mounted_in (written g one book true is) ∙ sym (All-head (Says g what) one rows says is))
    by false is (inl h) = inl (ap mounted_in (written g one book false is) ∙ h)
    by false is (inr h) = inr h

-- ---- the triggers at places

-- a trigger is at its place
at_place : (a : Autofs) (place : List (List ℕ)) (t : Trigger) → trigger_in a place ≡ Some t → (t.fs ≡ a.fs) × (place_of t ≡ place)
at_place a [] t e = by a.direct e
  where
    by : (b : Bool) → (if b then Some (record { fs = a.fs; name = None }) else None) ≡ Some t → (t.fs ≡ a.fs) × (place_of t ≡ [])
    by true e =
        let same : record { fs = a.fs; name = None } ≡ t = some_injective e in
        (ap (λ (x : Trigger). x.fs) (sym same), ap place_of (sym same))
    by false e = absurd cc
at_place a (name ∷ []) t e = by a.direct e
  where
    by : (b : Bool) → (if b then None else Some (record { fs = a.fs; name = Some name })) ≡ Some t → (t.fs ≡ a.fs) × (place_of t ≡ name ∷ [])
    by true e = absurd cc
    by false e =
        let same : record { fs = a.fs; name = Some name } ≡ t = some_injective e in
        (ap (λ (x : Trigger). x.fs) (sym same), ap place_of (sym same))
at_place a (name ∷ below ∷ names) t e = absurd cc

-- ---- what stands there

any_of_mount_by_cases : {X : Type 0} (p : X → Bool) (f : MountRow → List X) (x row : MountRow) (rows : List MountRow) (m : ℕ) (b : Bool) → cond b (Some x) (mount_row rows m) ≡ Some row → list_any p (f row) ≡ true → (mount_row rows m ≡ Some row → list_any p (flat_map f rows) ≡ true) →
    list_any p (f x ++ flat_map f rows) ≡ true
any_of_mount_by_cases p f x row rows m true e h later =
    let same : x ≡ row = cc in
    list_any-append p (f x) (flat_map f rows) ∙ or_left (list_any p (f x)) (list_any p (flat_map f rows)) (subst (λ (r : MountRow). list_any p (f r) ≡ true) (sym same) h)
any_of_mount_by_cases p f x row rows m false e h later =
    list_any-append p (f x) (flat_map f rows) ∙ or_right (list_any p (f x)) (list_any p (flat_map f rows)) (later e)

any_flat : {X : Type 0} (p : X → Bool) (f : MountRow → List X) (rows : List MountRow) (m : ℕ) (row : MountRow) → mount_row rows m ≡ Some row → list_any p (f row) ≡ true → list_any p (flat_map f rows) ≡ true
any_flat p f [] m row e h = absurd cc
any_flat p f (x ∷ rows) m row e h = any_of_mount_by_cases p f x row rows m (x.mount == m) e h (λ later. any_flat p f rows m row later h)

module _ (k : KernelState) (h : PlacesAgree k) (g : Trigger) (a : Autofs) (is : autofs_of k.triggers g.fs ≡ Some a) where
  at_location : mounted_on k g ≡ top_of k.table.rows a.location (place_of g)
  at_location = ap (λ (o : Option Autofs). top_of k.table.rows (location_in o) (place_of g)) is

  -- ---- each row that stands says what is mounted

  row_says : (row : MountRow) → All (Says g (mounted_on k g)) (standing_row k a row)
  row_says row = by row.mountpoint
    where
      says_on : (place : List (List ℕ)) (o : Option Trigger) → trigger_in a place ≡ o → top_of k.table.rows a.location place ≡ Some row.mount → All (Says g (mounted_on k g)) (standing_on o row.mount)
      says_on place None e top = All-nil (Says g (mounted_on k g))
      says_on place (Some t) e top =
          All-cons (Says g (mounted_on k g)) (t, row.mount) []
          (λ same.
          let here : place_of g ≡ place = ap place_of (sym (equal_by_same_trigger t g same)) ∙ (at_place a place t e).1 in
          at_location ∙ ap (top_of k.table.rows a.location) here ∙ top)
          (All-nil (Says g (mounted_on k g)))

      at_top : (at : Position) (b : Bool) → (at.mount == a.location && is_just row.mount (top_of k.table.rows a.location at.place)) ≡ b → All (Says g (mounted_on k g)) (standing_on (if b then trigger_in a at.place else None) row.mount)
      at_top at true e =
          let both = and_parts (at.mount == a.location) (is_just row.mount (top_of k.table.rows a.location at.place)) e in
          says_on at.place (trigger_in a at.place) refl (just_same row.mount (top_of k.table.rows a.location at.place) both.1)
      at_top at false e = All-nil (Says g (mounted_on k g))

      by : (at : Option Position) → All (Says g (mounted_on k g)) (standing_on (if is_top_of k a.location row at then trigger_at a at else None) row.mount)
      by None = All-nil (Says g (mounted_on k g))
      by (Some at) = at_top at (at.mount == a.location && is_just row.mount (top_of k.table.rows a.location at.place)) refl

  rows_say : (rows : List MountRow) → All (Says g (mounted_on k g)) (flat_map (standing_row k a) rows)
  rows_say [] = All-nil (Says g (mounted_on k g))
  rows_say (row ∷ rows) = All-append (Says g (mounted_on k g)) (standing_row k a row) (flat_map (standing_row k a) rows) (row_says row) (rows_say rows)

  -- ---- and what is mounted stands

  stands_on : (mount : ℕ) (b : Bool) (o : Option Trigger) → b ≡ true → o ≡ Some g → list_any (λ (one : Trigger × ℕ). same_trigger one.0 g) (standing_on (if b then o else None) mount) ≡ true
  stands_on mount false o e f = absurd cc
  stands_on mount true None e f = absurd cc
  stands_on mount true (Some t) e f = let same : t ≡ g = some_injective f in subst (λ (x : Trigger). (same_trigger x g || false) ≡ true) (sym same) (rw (same_trigger_itself g) refl)

  row_stands : (m : ℕ) (row : MountRow) → row.mount ≡ m → mounted_on k g ≡ Some m → trigger_in a (place_of g) ≡ Some g → (at : Option Position) → at ≡ Some (record { mount = a.location; place = place_of g }) →
      list_any (λ (one : Trigger × ℕ). same_trigger one.0 g) (standing_on (if is_top_of k a.location row at then trigger_at a at else None) row.mount) ≡ true
  row_stands m row same top fits at e =
      subst (λ (o : Option Position). list_any (λ (one : Trigger × ℕ). same_trigger one.0 g) (standing_on (if is_top_of k a.location row o then trigger_at a o else None) row.mount) ≡ true) (sym e)
      (stands_on row.mount _ (trigger_in a (place_of g))
      (and_of_both (a.location == a.location) (is_just row.mount (top_of k.table.rows a.location (place_of g))) (equal_to_itself a.location)
      (subst (λ (o : Option ℕ). is_just row.mount o ≡ true) (sym (sym at_location ∙ top)) (subst (λ (n : ℕ). is_just row.mount (Some n) ≡ true) same (equal_to_itself row.mount))))
      fits)

  mounted_stands : OnTriggers k → (m : ℕ) → mounted_on k g ≡ Some m → list_any (λ (one : Trigger × ℕ). same_trigger one.0 g) (standing_of k a) ≡ true
  mounted_stands on m top =
      let there = top_there k.table.rows a.location (place_of g) m h.whole.rising (sym at_location ∙ top) in
      let t = value_where_some (trigger_in a (place_of g)) (on.on g.fs a is m there.0 (place_of g) there.1 there.2) in
      let its = at_place a (place_of g) t.0 t.1 in
      let system : a.fs ≡ g.fs = equal_by_test a.fs g.fs (found_passes (λ (r : Autofs). r.fs == g.fs) k.triggers.autofs a is) in
      let same : t.0 ≡ g = trigger_same t.0 g (its.0 ∙ system) its.1 in
      any_flat (λ (one : Trigger × ℕ). same_trigger one.0 g) (standing_row k a) k.table.rows m there.0 there.1
      (row_stands m there.0 (its_number k.table.rows m there.0 there.1) top (t.1 ∙ ap (λ (x : Trigger). Some x) same) there.0.mountpoint there.2)

  -- so what is written down is what is mounted
  pub standing_written : OnTriggers k → (book : List RecordRow) → record_of book g ≡ None → mounted_in (record_of (all_mounted (standing k g.fs) book) g) ≡ mounted_on k g
  standing_written on book none =
      subst (λ (o : Option Autofs). mounted_in (record_of (all_mounted (standing_in k o) book) g) ≡ mounted_on k g) (sym is)
      (all_say g (mounted_on k g) (standing_of k a) book (rows_say k.table.rows) (by (mounted_on k g) refl))
    where
      by : (o : Option ℕ) → mounted_on k g ≡ o → (mounted_in (record_of book g) ≡ mounted_on k g) ⊎ (list_any (λ (one : Trigger × ℕ). same_trigger one.0 g) (standing_of k a) ≡ true)
      by None e = inl (ap mounted_in none ∙ sym e)
      by (Some m) e = inr (mounted_stands on m e)
