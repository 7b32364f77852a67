-- What the daemon writes down of the mounts that it finds when it attaches again: each is of its file
-- system, and none of them is pending.
use Rattle.std.proofs.Common.{◌≡◌, ℕ, Bool, true, false, List, [], ◌∷◌, Option, Some, None, refl, ap, subst, ◌∙◌}
use Rattle.std.specs.Prelude.{◌==◌, if◌then◌else◌}
use Rattle.std.specs.List.{flat_map, All}
use Rattle.std.proofs.lemmas.List.Elements.{All-nil, All-cons, All-head, All-tail, All-append}
use Rattle.am_names.specs.{same_trigger, MountRow, Position}
use Rattle.am_names.specs.declared.trigger.Trigger.{Trigger}
use Rattle.am_names.proofs.Basics.{equal_by_test, found_passes}
use Rattle.am_state.specs.{Record, RecordRow}
use Rattle.am_state.specs.declared.daemon_row.Record.TheVariants.{Mounted}
use Rattle.am_trigger.specs.{Autofs, autofs_of, trigger_in}
use Rattle.am_kernel.specs.{KernelState, is_top_at, trigger_at, trigger_under, standing_on, standing_row, standing_of, standing_in, standing}
use Rattle.am_job.specs.{record_of, with_record}
use Rattle.am_daemon.specs.{all_mounted, is_pending}
use Rattle.am_machine.proofs.Books.Pending.{recorded_is}

-- ---- they are of one file system

abbrev pub IsOf : ℕ → Option Trigger → Type 0
IsOf fs None = Unit {0}
IsOf fs (Some trigger) = trigger.fs ≡ fs

direct_of : (row : Autofs) (b : Bool) → IsOf row.fs (if b then Some (record { fs = row.fs; name = None }) else None)
direct_of row true = refl
direct_of row false = tt

indirect_of : (row : Autofs) (name : List ℕ) (b : Bool) → IsOf row.fs (if b then None else Some (record { fs = row.fs; name = Some name }))
indirect_of row name true = tt
indirect_of row name false = refl

trigger_of : (row : Autofs) (place : List (List ℕ)) → IsOf row.fs (trigger_in row place)
trigger_of row [] = direct_of row row.direct
trigger_of row (name ∷ []) = indirect_of row name row.direct
trigger_of row (name ∷ below ∷ names) = tt

at_of : (row : Autofs) (at : Option Position) → IsOf row.fs (trigger_at row at)
at_of row None = tt
at_of row (Some at) = trigger_of row at.place

under_of : (row : Autofs) (at : Option Position) (b : Bool) → IsOf row.fs (if b then trigger_at row at else None)
under_of row at true = at_of row at
under_of row at false = tt

on_of : (fs : ℕ) (trigger : Option Trigger) (mount : ℕ) → IsOf fs trigger → All (λ (one : Trigger × ℕ). one.0.fs ≡ fs) (standing_on trigger mount)
on_of fs None mount h = All-nil (λ (one : Trigger × ℕ). one.0.fs ≡ fs)
on_of fs (Some trigger) mount h = All-cons (λ (one : Trigger × ℕ). one.0.fs ≡ fs) (trigger, mount) [] h (All-nil (λ (one : Trigger × ℕ). one.0.fs ≡ fs))

rows_of : (k : KernelState) (autofs : Autofs) (rows : List MountRow) → All (λ (one : Trigger × ℕ). one.0.fs ≡ autofs.fs) (flat_map (standing_row k autofs) rows)
rows_of k autofs [] = All-nil (λ (one : Trigger × ℕ). one.0.fs ≡ autofs.fs)
rows_of k autofs (row ∷ rows) =
    All-append (λ (one : Trigger × ℕ). one.0.fs ≡ autofs.fs) (standing_row k autofs row) (flat_map (standing_row k autofs) rows)
    (on_of autofs.fs (trigger_under k autofs row) row.mount (under_of autofs row.mountpoint (is_top_at k autofs.location row))) (rows_of k autofs rows)

standing_by_cases : (k : KernelState) (fs : ℕ) (o : Option Autofs) → autofs_of k.triggers fs ≡ o → All (λ (one : Trigger × ℕ). one.0.fs ≡ fs) (standing_in k o)
standing_by_cases k fs None e = All-nil (λ (one : Trigger × ℕ). one.0.fs ≡ fs)
standing_by_cases k fs (Some row) e =
    subst (λ (n : ℕ). All (λ (one : Trigger × ℕ). one.0.fs ≡ n) (standing_of k row)) (equal_by_test row.fs fs (found_passes (λ (r : Autofs). r.fs == fs) k.triggers.autofs row e)) (rows_of k row k.table.rows)

pub standing_fs : (k : KernelState) (fs : ℕ) → All (λ (one : Trigger × ℕ). one.0.fs ≡ fs) (standing k fs)
standing_fs k fs = standing_by_cases k fs (autofs_of k.triggers fs) refl

-- ---- they are written down

other_fs : (trigger g : Trigger) (fs : ℕ) → trigger.fs ≡ fs → (fs == g.fs) ≡ false → same_trigger trigger g ≡ false
other_fs trigger g fs same other = rw (same, other) refl

-- the records of another file system stay
pub mounted_others : (standing : List (Trigger × ℕ)) (book : List RecordRow) (g : Trigger) (fs : ℕ) → All (λ (one : Trigger × ℕ). one.0.fs ≡ fs) standing → (fs == g.fs) ≡ false → record_of (all_mounted standing book) g ≡ record_of book g
mounted_others [] book g fs h other = refl
mounted_others (one ∷ standing) book g fs h other =
    let differs = other_fs one.0 g fs (All-head (λ (o : Trigger × ℕ). o.0.fs ≡ fs) one standing h) other in
    mounted_others standing (with_record one.0 (Mounted one.1) book) g fs (All-tail (λ (o : Trigger × ℕ). o.0.fs ≡ fs) one standing h) other
    ∙ recorded_is one.0 (Some (Mounted one.1)) book g
    ∙ rw differs refl

settled_by_cases : (b : Bool) (mount : ℕ) (o : Option Record) → is_pending o ≡ false → is_pending (if b then Some (Mounted mount) else o) ≡ false
settled_by_cases true mount o h = refl
settled_by_cases false mount o h = h

-- a record that isn't pending stays so
pub mounted_settled : (standing : List (Trigger × ℕ)) (book : List RecordRow) (g : Trigger) → is_pending (record_of book g) ≡ false → is_pending (record_of (all_mounted standing book) g) ≡ false
mounted_settled [] book g h = h
mounted_settled (one ∷ standing) book g h =
    mounted_settled standing (with_record one.0 (Mounted one.1) book) g
    (ap is_pending (recorded_is one.0 (Some (Mounted one.1)) book g) ∙ settled_by_cases (same_trigger one.0 g) one.1 (record_of book g) h)
