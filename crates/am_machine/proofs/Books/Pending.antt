-- The daemon's book as a finite map, and which of its records are pending.
use Rattle.std.proofs.Common.{◌≡◌, ℕ, Bool, true, false, cond, List, [], ◌∷◌, ◌++◌, map, Option, Some, None, refl, sym, ap, subst, arith}
use Rattle.std.specs.Prelude.{◌==◌, ◌||◌, find, if◌then◌else◌}
use Rattle.std.specs.List.{list_any, All}
use Rattle.std.specs.Option.{option_map}
use Rattle.std.proofs.lemmas.Bool.Decides.{nat_tests}
use Rattle.std.proofs.lemmas.List.Elements.{All-head, All-tail}
use Rattle.am_names.specs.{same_trigger}
use Rattle.am_names.specs.declared.trigger.Trigger.{Trigger}
use Rattle.am_state.specs.{Record, RecordRow}
use Rattle.am_state.specs.declared.daemon_row.Record.TheVariants.{Mounting, Mounted, Unmounting}
use Rattle.am_job.specs.{record_of, record_row, with_record, recorded, IsRecorded}
use Rattle.am_job.proofs.BookLemmas.{removed}
use Rattle.am_names.proofs.SameTriggers.{equal_by_same_trigger, same_trigger_itself}
use Rattle.am_machine.specs.{is_pending_for}
use Rattle.am_daemon.specs.{is_pending}

-- ---- one record changes

-- the record of a trigger that has one
changed_here : (trigger : Trigger) (entry : Record) (book : List RecordRow) → list_any (λ row. same_trigger row.trigger trigger) book ≡ true → record_of (map (record_row trigger entry) book) trigger ≡ Some entry
changed_here trigger entry [] h = absurd cc
changed_here trigger entry (row ∷ rows) h = by (λ some. changed_here trigger entry rows some) (same_trigger row.trigger trigger) refl h
  where
    by : (list_any (λ row. same_trigger row.trigger trigger) rows ≡ true → record_of (map (record_row trigger entry) rows) trigger ≡ Some entry) →
        (b : Bool) → same_trigger row.trigger trigger ≡ b → (b || list_any (λ row. same_trigger row.trigger trigger) rows) ≡ true → record_of (map (record_row trigger entry) (row ∷ rows)) trigger ≡ Some entry
    by later true same some = rw (same, same) refl
    by later false differs some = rw (differs, differs) (later some)

behind : (b : Bool) (row : RecordRow) (new old : List RecordRow) (g : Trigger) → record_of new g ≡ record_of old g →
    option_map {T = RecordRow} (λ r. r.entry) (cond b (Some row) (find (λ r. same_trigger r.trigger g) new)) ≡ option_map {T = RecordRow} (λ r. r.entry) (cond b (Some row) (find (λ r. same_trigger r.trigger g) old))
behind true row new old g later = refl
behind false row new old g later = later

changed_other : (trigger g : Trigger) (entry : Record) (book : List RecordRow) → same_trigger trigger g ≡ false → record_of (map (record_row trigger entry) book) g ≡ record_of book g
changed_other trigger g entry [] other = refl
changed_other trigger g entry (row ∷ rows) other = by (changed_other trigger g entry rows other) (same_trigger row.trigger trigger) refl
  where
    by : record_of (map (record_row trigger entry) rows) g ≡ record_of rows g → (b : Bool) → same_trigger row.trigger trigger ≡ b → record_of (map (record_row trigger entry) (row ∷ rows)) g ≡ record_of (row ∷ rows) g
    by later true same =
        let skipped : same_trigger row.trigger g ≡ false = subst (λ (t : Trigger). same_trigger t g ≡ false) (sym (equal_by_same_trigger row.trigger trigger same)) other in
        rw (same, skipped) later
    by later false differs = rw differs (behind (same_trigger row.trigger g) row (map (record_row trigger entry) rows) rows g later)

-- the record of a trigger that has none
added_here : (trigger : Trigger) (entry : Record) (book : List RecordRow) → list_any (λ row. same_trigger row.trigger trigger) book ≡ false → record_of (book ++ (record { trigger = trigger; entry = entry }) ∷ []) trigger ≡ Some entry
added_here trigger entry [] none = rw (same_trigger_itself trigger) refl
added_here trigger entry (row ∷ rows) none = by (λ none. added_here trigger entry rows none) (same_trigger row.trigger trigger) refl none
  where
    by : (list_any (λ row. same_trigger row.trigger trigger) rows ≡ false → record_of (rows ++ (record { trigger = trigger; entry = entry }) ∷ []) trigger ≡ Some entry) →
        (b : Bool) → same_trigger row.trigger trigger ≡ b → (b || list_any (λ row. same_trigger row.trigger trigger) rows) ≡ false → record_of ((row ∷ rows) ++ (record { trigger = trigger; entry = entry }) ∷ []) trigger ≡ Some entry
    by later true same none = absurd cc
    by later false differs none = rw differs (later none)

added_other : (trigger g : Trigger) (entry : Record) (book : List RecordRow) → same_trigger trigger g ≡ false → record_of (book ++ (record { trigger = trigger; entry = entry }) ∷ []) g ≡ record_of book g
added_other trigger g entry [] other = rw other refl
added_other trigger g entry (row ∷ rows) other =
    behind (same_trigger row.trigger g) row (rows ++ (record { trigger = trigger; entry = entry }) ∷ []) rows g (added_other trigger g entry rows other)

put_here : (trigger : Trigger) (entry : Record) (book : List RecordRow) (b : Bool) → list_any (λ row. same_trigger row.trigger trigger) book ≡ b →
    record_of (if b then map (record_row trigger entry) book else book ++ (record { trigger = trigger; entry = entry }) ∷ []) trigger ≡ Some entry
put_here trigger entry book true e = changed_here trigger entry book e
put_here trigger entry book false e = added_here trigger entry book e

put_other : (trigger g : Trigger) (entry : Record) (book : List RecordRow) (b : Bool) → same_trigger trigger g ≡ false →
    record_of (if b then map (record_row trigger entry) book else book ++ (record { trigger = trigger; entry = entry }) ∷ []) g ≡ record_of book g
put_other trigger g entry book true other = changed_other trigger g entry book other
put_other trigger g entry book false other = added_other trigger g entry book other

put_by_cases : (trigger g : Trigger) (entry : Record) (book : List RecordRow) (b : Bool) → same_trigger trigger g ≡ b → record_of (with_record trigger entry book) g ≡ (if b then Some entry else record_of book g)
put_by_cases trigger g entry book true same =
    subst (λ (t : Trigger). record_of (with_record trigger entry book) t ≡ Some entry) (equal_by_same_trigger trigger g same) (put_here trigger entry book (list_any (λ row. same_trigger row.trigger trigger) book) refl)
put_by_cases trigger g entry book false other = put_other trigger g entry book (list_any (λ row. same_trigger row.trigger trigger) book) other

-- the record is written, and the others stay
pub recorded_is : (trigger : Trigger) (entry : Option Record) (book : List RecordRow) → IsRecorded trigger entry book (recorded trigger entry book)
recorded_is trigger None book = λ g. removed trigger g book
recorded_is trigger (Some entry) book = λ g. put_by_cases trigger g entry book (same_trigger trigger g) refl

-- ---- file systems of which there is no record

no_record_by_cases : (g : Trigger) (row : RecordRow) (rows : List RecordRow) (b : Bool) → same_trigger row.trigger g ≡ b → (row.trigger.fs ≡ g.fs → ⊥) → record_of rows g ≡ None → record_of (row ∷ rows) g ≡ None
no_record_by_cases g row rows true same apart later = absurd (apart (ap (λ (t : Trigger). t.fs) (equal_by_same_trigger row.trigger g same)))
no_record_by_cases g row rows false other apart later = rw other later

-- no row of the book is of this file system
pub no_record : (book : List RecordRow) (g : Trigger) → All (λ (row : RecordRow). row.trigger.fs ≡ g.fs → ⊥) book → record_of book g ≡ None
no_record [] g h = refl
no_record (row ∷ rows) g h =
    no_record_by_cases g row rows (same_trigger row.trigger g) refl (All-head (λ (row : RecordRow). row.trigger.fs ≡ g.fs → ⊥) row rows h) (no_record rows g (All-tail (λ (row : RecordRow). row.trigger.fs ≡ g.fs → ⊥) row rows h))

-- ---- pending records

-- a record that isn't pending is so for no token
pub settled_for : (token : ℕ) (o : Option Record) → is_pending o ≡ false → is_pending_for token o ≡ false
settled_for token None h = refl
settled_for token (Some (Mounting other)) h = absurd cc
settled_for token (Some (Mounted mount)) h = refl
settled_for token (Some (Unmounting other mount)) h = absurd cc

differs_by_cases : (a b c : ℕ) → (a == b) ≡ true → (c == b) ≡ false → (a == c) ≡ false
differs_by_cases a b c same differs = grind (arith, nat_tests, same, differs)

-- a record is pending for one token
pub pending_once : (token other : ℕ) (o : Option Record) → is_pending_for token o ≡ true → (other == token) ≡ false → is_pending_for other o ≡ false
pending_once token other None h differs = refl
pending_once token other (Some (Mounting k)) h differs = differs_by_cases k token other h differs
pending_once token other (Some (Mounted mount)) h differs = refl
pending_once token other (Some (Unmounting k mount)) h differs = differs_by_cases k token other h differs
