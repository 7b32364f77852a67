-- What kernel and daemon have stays below the numbers that were given.
use Rattle.std.proofs.Common.{◌≡◌, ℕ, ◌+◌, ◌≤◌, ◌==◌, Bool, true, false, List, [], ◌∷◌, ◌++◌, map, Option, Some, None, refl, sym, ap, subst, arith, filter}
use Rattle.std.specs.Prelude.{not, is_some, if◌then◌else◌}
use Rattle.std.specs.List.{All, list_any, flat_map}
use Rattle.std.proofs.lemmas.List.Elements.{All-nil, All-cons, All-head, All-tail, All-append, All-push, All-weaker, All-map, All-filter}
use Rattle.am_names.specs.{same_trigger, MountRow, Position}
use Rattle.am_names.specs.declared.trigger.Trigger.{Trigger}
use Rattle.am_state.specs.{HeldRow, KnownRow, Record, RecordRow}
use Rattle.am_state.specs.declared.daemon_row.Record.TheVariants.{Mounted}
use Rattle.am_trigger.specs.{Autofs, autofs_of, catatonic_row, trigger_in}
use Rattle.am_kernel.specs.{Attached, KernelState, attached_at, is_top_at, trigger_at, standing_on, standing_row, standing_in, standing, with_pipe, with_timeout, timeout_row, made_catatonic}
use Rattle.am_kernel.specs.Attachments as piped
use Rattle.am_job.specs.{record_row, with_record, recorded, without_fs}
use Rattle.am_daemon.specs.{DaemonState, JobPlan, with_attachment, all_mounted, reattached}
use Rattle.am_machine.specs.{RiseTo, AreKnown, NumbersAreAllocated}
use Rattle.am_machine.proofs.Attachments.Known.{autofs_is, known_marked, known_changed, known_more, known_again}
use Rattle.am_machine.proofs.Lists.Different.{all_found}
use Rattle.am_machine.proofs.Attachments.Grows.{rise_push, rise_map, rise_more, piped_fs, timeout_keeps}

-- ---- the kernel changes

-- what the kernel has is below its numbers, which are no less than before
pub record IsGiven (k made : KernelState) : Type 0 where
  pub rise : RiseTo made.last_fs 0 made.attached
  pub attached : All (λ (row : Attached). row.attach ≤ made.last_attach) made.attached
  pub autofs : All (λ (row : Autofs). row.fs ≤ made.last_fs) made.triggers.autofs
  pub more_fs : k.last_fs ≤ made.last_fs
  pub more_attach : k.last_attach ≤ made.last_attach

-- so is what the daemon has
record DaemonGiven (k : KernelState) (d : DaemonState) : Type 0 where
  known : All (λ (row : KnownRow). row.fs ≤ k.last_fs) d.known
  jobs : All (λ (row : JobPlan). (row.attach ≤ k.last_attach) × (row.trigger.fs ≤ k.last_fs)) d.jobs
  book : All (λ (row : RecordRow). row.trigger.fs ≤ k.last_fs) d.book

given_daemon : (k made : KernelState) (d : DaemonState) → IsGiven k made → NumbersAreAllocated k d → DaemonGiven made d
given_daemon k made d g h =
    let fs = g.more_fs in
    let attach = g.more_attach in
    record {
      known = All-weaker (λ (row : KnownRow). row.fs ≤ k.last_fs) (λ (row : KnownRow). row.fs ≤ made.last_fs) (λ row le. omega (arith, le, fs)) d.known h.known;
      jobs = All-weaker (λ (row : JobPlan). (row.attach ≤ k.last_attach) × (row.trigger.fs ≤ k.last_fs)) (λ (row : JobPlan). (row.attach ≤ made.last_attach) × (row.trigger.fs ≤ made.last_fs)) (λ row le. (omega (arith, le.0, attach), omega (arith, le.1, fs))) d.jobs h.jobs;
      book = All-weaker (λ (row : RecordRow). row.trigger.fs ≤ k.last_fs) (λ (row : RecordRow). row.trigger.fs ≤ made.last_fs) (λ row le. omega (arith, le, fs)) d.book h.book;
    }

pub given_kernel : (k made : KernelState) (d : DaemonState) → IsGiven k made → AreKnown made.triggers.autofs made.attached d.known d.held → NumbersAreAllocated k d → NumbersAreAllocated made d
given_kernel k made d g familiar h =
    let daemon = given_daemon k made d g h in
    record { rise = g.rise; attached = g.attached; autofs = g.autofs; known = daemon.known; jobs = daemon.jobs; book = daemon.book; familiar = familiar }

-- only the number of file systems rises, if any
pub given_more : (k made : KernelState) (d : DaemonState) → made.attached ≡ k.attached → made.triggers.autofs ≡ k.triggers.autofs → made.last_attach ≡ k.last_attach → k.last_fs ≤ made.last_fs → NumbersAreAllocated k d → NumbersAreAllocated made d
given_more k made d attached autofs last le h =
    given_kernel k made d (record {
      rise = subst (RiseTo made.last_fs 0) (sym attached) (rise_more k.last_fs made.last_fs 0 k.attached le h.rise);
      attached = subst (All (λ (row : Attached). row.attach ≤ made.last_attach)) (sym attached) (All-weaker (λ (row : Attached). row.attach ≤ k.last_attach) (λ (row : Attached). row.attach ≤ made.last_attach) (λ row m. omega (arith, m, last)) k.attached h.attached);
      autofs = subst (All (λ (row : Autofs). row.fs ≤ made.last_fs)) (sym autofs) (All-weaker (λ (row : Autofs). row.fs ≤ k.last_fs) (λ (row : Autofs). row.fs ≤ made.last_fs) (λ row m. omega (arith, m, le)) k.triggers.autofs h.autofs);
      more_fs = le;
      more_attach = omega (arith, last);
    })
    (subst (λ (rows : List Attached). AreKnown made.triggers.autofs rows d.known d.held) (sym attached)
    (subst (λ (rows : List Autofs). AreKnown rows k.attached d.known d.held) (sym autofs) h.familiar)) h

catatonic_by_cases : (b c : Bool) (row : Autofs) → (if c then record row { catatonic = b } else row).fs ≡ row.fs
catatonic_by_cases b true row = refl
catatonic_by_cases b false row = refl

catatonic_all : (fs last : ℕ) (b : Bool) (rows : List Autofs) → All (λ (row : Autofs). row.fs ≤ last) rows → All (λ (row : Autofs). row.fs ≤ last) (map (catatonic_row fs b) rows)
catatonic_all fs last b rows h =
    All-map (λ (row : Autofs). row.fs ≤ last) (catatonic_row fs b) rows
    (All-weaker (λ (row : Autofs). row.fs ≤ last) (λ (row : Autofs). (catatonic_row fs b row).fs ≤ last) (λ row le. subst (λ (n : ℕ). n ≤ last) (sym (catatonic_by_cases b (row.fs == fs) row)) le) rows h)

pub given_closed : (k : KernelState) (d : DaemonState) (fs : ℕ) → NumbersAreAllocated k d → NumbersAreAllocated (made_catatonic fs k) d
given_closed k d fs h =
    given_kernel k (made_catatonic fs k) d (record { rise = h.rise; attached = h.attached; autofs = catatonic_all fs k.last_fs true k.triggers.autofs h.autofs; more_fs = omega arith; more_attach = omega arith })
    (known_marked k.triggers.autofs k.attached d.known d.held h.familiar (catatonic_row fs true) (λ row. catatonic_by_cases true (row.fs == fs) row)) h

pub given_timeout : (k : KernelState) (d : DaemonState) (fs n : ℕ) → NumbersAreAllocated k d → NumbersAreAllocated (with_timeout fs n k) d
given_timeout k d fs n h =
    given_kernel k (with_timeout fs n k) d (record {
      rise = rise_map k.last_fs 0 (timeout_row fs n) k.attached (λ row. (timeout_keeps fs n row).0) h.rise;
      attached = All-map (λ (row : Attached). row.attach ≤ k.last_attach) (timeout_row fs n) k.attached
          (All-weaker (λ (row : Attached). row.attach ≤ k.last_attach) (λ (row : Attached). (timeout_row fs n row).attach ≤ k.last_attach) (λ row le. subst (λ (m : ℕ). m ≤ k.last_attach) (sym (timeout_keeps fs n row).1) le) k.attached h.attached);
      autofs = h.autofs;
      more_fs = omega arith;
      more_attach = omega arith;
    })
    (known_changed k.triggers.autofs k.attached d.known d.held h.familiar (timeout_row fs n) (λ row. (timeout_keeps fs n row).0)) h

-- ---- attachments begin

piped_most : (last : ℕ) (row : Attached) (b : Bool) → row.attach ≤ last → (if b then record row { attach = last + 1 } else row).attach ≤ last + 1
piped_most last row true le = omega arith
piped_most last row false le = omega (arith, le)

given_pipe : (k : KernelState) (d : DaemonState) (fs : ℕ) → NumbersAreAllocated k d → NumbersAreAllocated (with_pipe fs k) d
given_pipe k d fs h =
    let made = with_pipe fs k in
    given_kernel k made d (record {
      rise = rise_map k.last_fs 0 (piped.reattached_row fs (k.last_attach + 1)) k.attached (piped_fs fs (k.last_attach + 1)) h.rise;
      attached = All-map (λ (row : Attached). row.attach ≤ k.last_attach + 1) (piped.reattached_row fs (k.last_attach + 1)) k.attached
          (All-weaker (λ (row : Attached). row.attach ≤ k.last_attach) (λ (row : Attached). (piped.reattached_row fs (k.last_attach + 1) row).attach ≤ k.last_attach + 1) (λ row le. piped_most k.last_attach row (row.fs == fs) le) k.attached h.attached);
      autofs = catatonic_all fs k.last_fs false k.triggers.autofs h.autofs;
      more_fs = omega arith;
      more_attach = omega arith;
    })
    (known_marked k.triggers.autofs made.attached d.known d.held
    (known_changed k.triggers.autofs k.attached d.known d.held h.familiar (piped.reattached_row fs (k.last_attach + 1)) (piped_fs fs (k.last_attach + 1)))
    (catatonic_row fs false) (λ row. catatonic_by_cases false (row.fs == fs) row)) h

pub given_attached : (direct : Bool) (timeout : ℕ) (k : KernelState) (at : Position) (path : List (List ℕ)) (d : DaemonState) → NumbersAreAllocated k d → NumbersAreAllocated (attached_at direct timeout k at) (with_attachment (k.last_fs + 1) (k.last_attach + 1) path d)
given_attached direct timeout k at path d h =
    let made = attached_at direct timeout k at in
    let g : IsGiven k made = record {
      rise = rise_push k.last_fs 0 k.attached _ (omega arith) refl h.rise;
      attached = All-push (λ (row : Attached). row.attach ≤ k.last_attach + 1) k.attached _ (All-weaker (λ (row : Attached). row.attach ≤ k.last_attach) (λ (row : Attached). row.attach ≤ k.last_attach + 1) (λ row le. omega (arith, le)) k.attached h.attached) (omega arith);
      autofs = All-push (λ (row : Autofs). row.fs ≤ k.last_fs + 1) k.triggers.autofs _ (All-weaker (λ (row : Autofs). row.fs ≤ k.last_fs) (λ (row : Autofs). row.fs ≤ k.last_fs + 1) (λ row le. omega (arith, le)) k.triggers.autofs h.autofs) (omega arith);
      more_fs = omega arith;
      more_attach = omega arith;
    } in
    let daemon = given_daemon k made d g h in
    record {
      rise = g.rise;
      attached = g.attached;
      autofs = g.autofs;
      known = All-push (λ (row : KnownRow). row.fs ≤ k.last_fs + 1) (filter (λ (row : KnownRow). not (row.fs == k.last_fs + 1)) d.known) _
          (All-filter (λ (row : KnownRow). not (row.fs == k.last_fs + 1)) (λ (row : KnownRow). row.fs ≤ k.last_fs + 1) d.known daemon.known) (omega arith);
      jobs = daemon.jobs;
      book = daemon.book;
      familiar = known_more k.triggers.autofs k.attached d.known d.held h.familiar _ _ path (k.last_attach + 1) refl;
    }

-- ---- the book

abbrev Below : ℕ → RecordRow → Type 0
Below last row = row.trigger.fs ≤ last

record_by_cases : (b : Bool) (row : RecordRow) (entry : Record) → (if b then record row { entry = entry } else row).trigger ≡ row.trigger
record_by_cases true row entry = refl
record_by_cases false row entry = refl

with_by_cases : (last : ℕ) (g : Trigger) (entry : Record) (book : List RecordRow) (b : Bool) → g.fs ≤ last → All (Below last) book → All (Below last) (if b then map (record_row g entry) book else book ++ (record { trigger = g; entry = entry }) ∷ [])
with_by_cases last g entry book true le h =
    All-map (Below last) (record_row g entry) book (All-weaker (Below last) (λ (row : RecordRow). Below last (record_row g entry row)) (λ row m. subst (λ (t : Trigger). t.fs ≤ last) (sym (record_by_cases (same_trigger row.trigger g) row entry)) m) book h)
with_by_cases last g entry book false le h = All-push (Below last) book _ h le

pub book_with : (last : ℕ) (g : Trigger) (entry : Record) (book : List RecordRow) → g.fs ≤ last → All (Below last) book → All (Below last) (with_record g entry book)
book_with last g entry book le h = with_by_cases last g entry book (list_any (λ row. same_trigger row.trigger g) book) le h

pub book_recorded : (last : ℕ) (g : Trigger) (entry : Option Record) (book : List RecordRow) → g.fs ≤ last → All (Below last) book → All (Below last) (recorded g entry book)
book_recorded last g None book le h = All-filter (λ (row : RecordRow). not (same_trigger row.trigger g)) (Below last) book h
book_recorded last g (Some entry) book le h = book_with last g entry book le h

abbrev IsBelow : ℕ → Trigger × ℕ → Type 0
IsBelow last one = one.0.fs ≤ last

book_mounted : (last : ℕ) (standing : List (Trigger × ℕ)) (book : List RecordRow) → All (IsBelow last) standing → All (Below last) book → All (Below last) (all_mounted standing book)
book_mounted last [] book le h = h
book_mounted last (one ∷ standing) book le h =
    book_mounted last standing (with_record one.0 (Mounted one.1) book) (All-tail (IsBelow last) one standing le) (book_with last one.0 (Mounted one.1) book (All-head (IsBelow last) one standing le) h)

-- ---- what stands

if_below : (last : ℕ) (autofs : Autofs) (b : Bool) (o : Option Trigger) (mount : ℕ) → autofs.fs ≤ last → ((g : Trigger) → o ≡ Some g → g.fs ≡ autofs.fs) → All (IsBelow last) (standing_on (if b then o else None) mount)
if_below last autofs true None mount le h = All-nil (IsBelow last)
if_below last autofs true (Some g) mount le h = All-cons (IsBelow last) (g, mount) [] (subst (λ (n : ℕ). n ≤ last) (sym (h g refl)) le) (All-nil (IsBelow last))
if_below last autofs false o mount le h = All-nil (IsBelow last)

if_some : (b : Bool) (x g : Trigger) → (if b then Some x else None) ≡ Some g → x ≡ g
if_some true x g e = cc
if_some false x g e = absurd cc

unless_some : (b : Bool) (x g : Trigger) → (if b then None else Some x) ≡ Some g → x ≡ g
unless_some true x g e = absurd cc
unless_some false x g e = cc

in_fs : (autofs : Autofs) (place : List (List ℕ)) (g : Trigger) → trigger_in autofs place ≡ Some g → g.fs ≡ autofs.fs
in_fs autofs [] g e = ap (λ (t : Trigger). t.fs) (sym (if_some autofs.direct _ g e))
in_fs autofs (name ∷ []) g e = ap (λ (t : Trigger). t.fs) (sym (unless_some autofs.direct _ g e))
in_fs autofs (name ∷ below ∷ names) g e = absurd cc

at_fs : (autofs : Autofs) (at : Option Position) (g : Trigger) → trigger_at autofs at ≡ Some g → g.fs ≡ autofs.fs
at_fs autofs None g e = absurd cc
at_fs autofs (Some at) g e = in_fs autofs at.place g e

all_standing : (k : KernelState) (last : ℕ) (autofs : Autofs) (rows : List MountRow) → autofs.fs ≤ last → All (IsBelow last) (flat_map (standing_row k autofs) rows)
all_standing k last autofs [] le = All-nil (IsBelow last)
all_standing k last autofs (row ∷ rows) le =
    All-append (IsBelow last) (standing_row k autofs row) (flat_map (standing_row k autofs) rows)
    (if_below last autofs (is_top_at k autofs.location row) (trigger_at autofs row.mountpoint) row.mount le (λ g e. at_fs autofs row.mountpoint g e))
    (all_standing k last autofs rows le)

standing_below : (k : KernelState) (last fs : ℕ) (o : Option Autofs) → autofs_of k.triggers fs ≡ o → All (λ (row : Autofs). row.fs ≤ last) k.triggers.autofs → All (IsBelow last) (standing_in k o)
standing_below k last fs None e h = All-nil (IsBelow last)
standing_below k last fs (Some autofs) e h = all_standing k last autofs k.table.rows (all_found (λ (row : Autofs). row.fs ≤ last) (λ (row : Autofs). row.fs == fs) k.triggers.autofs autofs h e)

pub given_reattached : (k : KernelState) (d : DaemonState) (fs : ℕ) → is_some (autofs_of k.triggers fs) ≡ true → NumbersAreAllocated k d → NumbersAreAllocated (with_pipe fs k) (reattached fs (k.last_attach + 1) (standing k fs) d)
given_reattached k d fs there h =
    let g = given_pipe k d fs h in
    let is = (autofs_is k.triggers.autofs k.attached d.known d.held h.familiar fs there).0 in
    record {
      rise = g.rise;
      attached = g.attached;
      autofs = g.autofs;
      known = g.known;
      jobs = g.jobs;
      book = book_mounted k.last_fs (standing k fs) (without_fs fs d.book) (standing_below k k.last_fs fs (autofs_of k.triggers fs) refl h.autofs) (All-filter (λ (row : RecordRow). not (row.trigger.fs == fs)) (Below k.last_fs) d.book h.book);
      familiar = known_again _ _ d.known d.held g.familiar (λ (row : HeldRow). not (row.fs == fs)) (record { fs = fs; attach = k.last_attach + 1 }) is;
    }
