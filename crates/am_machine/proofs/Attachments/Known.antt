-- What the daemon knows stays known.
use Rattle.std.proofs.Common.{◌≡◌, ℕ, Bool, true, false, cond, List, [], ◌∷◌, ◌++◌, map, Some, refl, sym, ap, subst, ◌∙◌}
use Rattle.std.specs.Prelude.{◌==◌, ◌||◌, ◌&&◌, not, is_some, find, filter}
use Rattle.std.specs.List.{list_any, All}
use Rattle.std.proofs.lemmas.Bool.{and_parts}
use Rattle.std.proofs.lemmas.List.Elements.{All-map, All-weaker, All-push, All-filter}
use Rattle.std.proofs.lemmas.List.Folds.{list_any-append}
use Rattle.std.proofs.lemmas.Map.Views.{any-filter_same}
use Rattle.am_names.proofs.Basics.{equal_to_itself, equal_by_test, or_left, or_right, value_where_some, found_passes, differ_the_other_way}
use Rattle.am_state.specs.{HeldRow, KnownRow}
use Rattle.am_trigger.specs.{Autofs}
use Rattle.am_kernel.specs.{Attached}
use Rattle.am_daemon.specs.{known_at, held_as}
use Rattle.am_machine.specs.{is_known, was_attached, AreKnown}
use Rattle.am_machine.proofs.Lists.Different.{all_found}

-- ---- a test that a row passes

module _ {X : Type 0} (test : X → Bool) where
  -- among more rows
  pub any_more : (rows more : List X) → list_any test rows ≡ true → list_any test (rows ++ more) ≡ true
  any_more rows more h = list_any-append test rows more ∙ or_left (list_any test rows) (list_any test more) h

  pub any_last : (rows : List X) (new : X) → test new ≡ true → list_any test (rows ++ new ∷ []) ≡ true
  any_last rows new h = list_any-append test rows (new ∷ []) ∙ or_right (list_any test rows) (test new || false) (or_left (test new) false h)

  -- among changed rows
  pub any_mapped : (change : X → X) (rows : List X) → ((x : X) → test (change x) ≡ test x) → list_any test (map change rows) ≡ list_any test rows
  any_mapped change [] same = refl
  any_mapped change (x ∷ rows) same = ap (λ (b : Bool). b || list_any test (map change rows)) (same x) ∙ ap (λ (b : Bool). test x || b) (any_mapped change rows same)

  any_by_cases : (x : X) (rows : List X) (b : Bool) → (list_any test rows ≡ true → is_some (find test rows) ≡ true) → (b || list_any test rows) ≡ true → is_some (cond b (Some x) (find test rows)) ≡ true
  any_by_cases x rows true later h = refl
  any_by_cases x rows false later h = later h

  -- the row is found
  pub any_found : (rows : List X) → list_any test rows ≡ true → is_some (find test rows) ≡ true
  any_found [] h = absurd cc
  any_found (x ∷ rows) h = any_by_cases x rows (test x) (any_found rows) h

-- ---- what is known

-- an autofs that is found is known, and was attached
pub autofs_is : (autofs : List Autofs) (attached : List Attached) (known : List KnownRow) (held : List HeldRow) → AreKnown autofs attached known held → (fs : ℕ) → is_some (find (λ (row : Autofs). row.fs == fs) autofs) ≡ true → (is_known known fs ≡ true) × (was_attached attached fs ≡ true)
autofs_is autofs attached known held h fs is =
    let found = value_where_some (find (λ (row : Autofs). row.fs == fs) autofs) is in
    let same = equal_by_test found.0.fs fs (found_passes (λ (row : Autofs). row.fs == fs) autofs found.0 found.1) in (
      subst (λ (n : ℕ). is_known known n ≡ true) same (all_found (λ (row : Autofs). is_known known row.fs ≡ true) (λ (row : Autofs). row.fs == fs) autofs found.0 h.autofs_known found.1),
      subst (λ (n : ℕ). was_attached attached n ≡ true) same (all_found (λ (row : Autofs). was_attached attached row.fs ≡ true) (λ (row : Autofs). row.fs == fs) autofs found.0 h.autofs_attached found.1),
    )

-- what is held is known
pub held_is : (known : List KnownRow) (held : List HeldRow) → All (λ (row : HeldRow). is_known known row.fs ≡ true) held → (fs attach : ℕ) → list_any (λ (row : HeldRow). row.fs == fs && row.attach == attach) held ≡ true → is_known known fs ≡ true
held_is known held h fs attach is =
    let test : HeldRow → Bool = λ row. row.fs == fs && row.attach == attach in
    let found = value_where_some (find test held) (any_found test held is) in
    let passes = and_parts (found.0.fs == fs) (found.0.attach == attach) (found_passes test held found.0 found.1) in
    subst (λ (n : ℕ). is_known known n ≡ true) (equal_by_test found.0.fs fs passes.0) (all_found (λ (row : HeldRow). is_known known row.fs ≡ true) test held found.0 h found.1)

-- ---- it stays known

module _ (autofs : List Autofs) (attached : List Attached) (known : List KnownRow) (held : List HeldRow) (h : AreKnown autofs attached known held) where
  -- an autofs changes, but for its number
  pub known_marked : (change : Autofs → Autofs) → ((row : Autofs) → (change row).fs ≡ row.fs) → AreKnown (map change autofs) attached known held
  known_marked change same = record {
    autofs_known = All-map (λ (row : Autofs). is_known known row.fs ≡ true) change autofs
        (All-weaker (λ (row : Autofs). is_known known row.fs ≡ true) (λ (row : Autofs). is_known known (change row).fs ≡ true) (λ row is. subst (λ (n : ℕ). is_known known n ≡ true) (sym (same row)) is) autofs h.autofs_known);
    autofs_attached = All-map (λ (row : Autofs). was_attached attached row.fs ≡ true) change autofs
        (All-weaker (λ (row : Autofs). was_attached attached row.fs ≡ true) (λ (row : Autofs). was_attached attached (change row).fs ≡ true) (λ row is. subst (λ (n : ℕ). was_attached attached n ≡ true) (sym (same row)) is) autofs h.autofs_attached);
    held_known = h.held_known;
  }

  -- so does the row of its attachment
  pub known_changed : (change : Attached → Attached) → ((row : Attached) → (change row).fs ≡ row.fs) → AreKnown autofs (map change attached) known held
  known_changed change same = record {
    autofs_known = h.autofs_known;
    autofs_attached = All-weaker (λ (row : Autofs). was_attached attached row.fs ≡ true) (λ (row : Autofs). was_attached (map change attached) row.fs ≡ true)
        (λ row is. any_mapped (λ (r : Attached). r.fs == row.fs) change attached (λ r. subst (λ (n : ℕ). (n == row.fs) ≡ (r.fs == row.fs)) (sym (same r)) refl) ∙ is) autofs h.autofs_attached;
    held_known = h.held_known;
  }

  -- what was known is known when one more is, at a path
  still_known : (new : ℕ) (path : List (List ℕ)) (fs : ℕ) (b : Bool) → (new == fs) ≡ b → is_known known fs ≡ true → is_known (known_at new path known) fs ≡ true
  still_known new path fs true is was = any_last (λ (r : KnownRow). r.fs == fs) (filter (λ (r : KnownRow). not (r.fs == new)) known) (record { fs = new; path = path }) is
  still_known new path fs false other was =
      any_more (λ (r : KnownRow). r.fs == fs) (filter (λ (r : KnownRow). not (r.fs == new)) known) _
      (any-filter_same (λ (r : KnownRow). r.fs == fs) (λ (r : KnownRow). not (r.fs == new)) true
      (λ r is. ap not (subst (λ (n : ℕ). (n == new) ≡ false) (sym (equal_by_test r.fs fs is)) (differ_the_other_way new fs other))) known ∙ was)

  -- one autofs more
  pub known_more : (a : Autofs) (row : Attached) (path : List (List ℕ)) (attach : ℕ) → row.fs ≡ a.fs → AreKnown (autofs ++ a ∷ []) (attached ++ row ∷ []) (known_at a.fs path known) (held_as a.fs attach held)
  known_more a row path attach same_row =
      let its_row : (row.fs == a.fs) ≡ true = subst (λ (n : ℕ). (row.fs == n) ≡ true) same_row (equal_to_itself row.fs) in
      let now : is_known (known_at a.fs path known) a.fs ≡ true = any_last (λ (r : KnownRow). r.fs == a.fs) (filter (λ (r : KnownRow). not (r.fs == a.fs)) known) (record { fs = a.fs; path = path }) (equal_to_itself a.fs) in
      let still : (fs : ℕ) → is_known known fs ≡ true → is_known (known_at a.fs path known) fs ≡ true = λ fs. still_known a.fs path fs (a.fs == fs) refl in
      record {
        autofs_known = All-push (λ (r : Autofs). is_known (known_at a.fs path known) r.fs ≡ true) autofs a
            (All-weaker (λ (r : Autofs). is_known known r.fs ≡ true) (λ (r : Autofs). is_known (known_at a.fs path known) r.fs ≡ true) (λ r. still r.fs) autofs h.autofs_known) now;
        autofs_attached = All-push (λ (r : Autofs). was_attached (attached ++ row ∷ []) r.fs ≡ true) autofs a
            (All-weaker (λ (r : Autofs). was_attached attached r.fs ≡ true) (λ (r : Autofs). was_attached (attached ++ row ∷ []) r.fs ≡ true) (λ r is. any_more (λ (x : Attached). x.fs == r.fs) attached (row ∷ []) is) autofs h.autofs_attached)
            (any_last (λ (r : Attached). r.fs == a.fs) attached row its_row);
        held_known = All-push (λ (r : HeldRow). is_known (known_at a.fs path known) r.fs ≡ true) (filter (λ (r : HeldRow). not (r.fs == a.fs)) held) (record { fs = a.fs; attach = attach })
            (All-filter (λ (r : HeldRow). not (r.fs == a.fs)) (λ (r : HeldRow). is_known (known_at a.fs path known) r.fs ≡ true) held
            (All-weaker (λ (r : HeldRow). is_known known r.fs ≡ true) (λ (r : HeldRow). is_known (known_at a.fs path known) r.fs ≡ true) (λ r. still r.fs) held h.held_known)) now;
      }

  -- it is held anew
  pub known_again : (keep : HeldRow → Bool) (hold : HeldRow) → is_known known hold.fs ≡ true → AreKnown autofs attached known (filter keep held ++ hold ∷ [])
  known_again keep hold is = record {
    autofs_known = h.autofs_known;
    autofs_attached = h.autofs_attached;
    held_known = All-push (λ (r : HeldRow). is_known known r.fs ≡ true) (filter keep held) hold (All-filter keep (λ (r : HeldRow). is_known known r.fs ≡ true) held h.held_known) is;
  }
