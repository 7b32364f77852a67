-- Attachments that begin, and the daemon's death, leave the daemon's book right.
use Rattle.std.proofs.Common.{◌≡◌, ℕ, ◌+◌, ◌≤◌, Bool, true, false, List, Option, Some, None, refl, sym, ap, subst, ◌∙◌, arith}
use Rattle.std.specs.Prelude.{◌==◌}
use Rattle.std.proofs.lemmas.Bool.Decides.{nat_tests}
use Rattle.std.proofs.lemmas.List.Elements.{All-nil, All-weaker}
use Rattle.am_names.specs.declared.trigger.Trigger.{Trigger}
use Rattle.am_names.specs.{Position}
use Rattle.am_names.proofs.Basics.{equal_to_itself, equal_by_test, found_passes, differ_the_other_way}
use Rattle.am_state.specs.{HeldRow, RecordRow}
use Rattle.am_trigger.specs.{Autofs, autofs_of}
use Rattle.am_kernel.specs.{Attached, KernelState, attach_of, attached_row, attached_at, standing, with_pipe}
use Rattle.am_job.specs.{record_of, without_fs}
use Rattle.am_job.proofs.BookLemmas.{forgotten}
use Rattle.am_daemon.specs.{DaemonState, JobPlan, attach_held, with_attachment, dead, all_mounted, reattached, job_of}
use Rattle.am_machine.specs.{NumbersAreAllocated, IsServed, is_pending_for, is_to_record, BookAgrees}
use Rattle.am_machine.proofs.Books.Pending.{no_record, settled_for}
use Rattle.am_machine.proofs.Lists.Different.{all_found}
use Rattle.am_machine.proofs.Lists.Found.{find_others}
use Rattle.am_machine.proofs.Attachments.Held.{held_new, held_others, held_differ, held_below}
use Rattle.am_machine.proofs.Books.Unchanged.{found_same, pipe_others}
use Rattle.am_machine.proofs.Books.Standing.{mounted_others, mounted_settled, standing_fs}

-- ---- new numbers are new

above : (n last : ℕ) → n ≤ last → (n == last + 1) ≡ false
above n last least = grind (arith, nat_tests, least)

too_new_by_cases : (k : KernelState) (d : DaemonState) (g : Trigger) (token : ℕ) (o : Option JobPlan) → job_of d.jobs token ≡ o → NumbersAreAllocated k d → is_to_record (k.last_attach + 1) g o ≡ false
too_new_by_cases k d g token None e given = refl
too_new_by_cases k d g token (Some row) e given =
    let bound = all_found (λ (r : JobPlan). (r.attach ≤ k.last_attach) × (r.trigger.fs ≤ k.last_fs)) (λ (r : JobPlan). r.token == token) d.jobs row given.jobs e in
    rw (above row.attach k.last_attach bound.0) refl

-- no job is of the next attachment
too_new : (k : KernelState) (d : DaemonState) (g : Trigger) (token : ℕ) → NumbersAreAllocated k d → is_to_record (k.last_attach + 1) g (job_of d.jobs token) ≡ false
too_new k d g token given = too_new_by_cases k d g token (job_of d.jobs token) refl given

-- no record is of the next file system
unrecorded : (k : KernelState) (d : DaemonState) (g : Trigger) → NumbersAreAllocated k d → k.last_fs + 1 ≡ g.fs → record_of d.book g ≡ None
unrecorded k d g given same =
    no_record d.book g
    (All-weaker (λ (row : RecordRow). row.trigger.fs ≤ k.last_fs) (λ (row : RecordRow). row.trigger.fs ≡ g.fs → ⊥) (λ row least e. omega (arith, least, e, same)) d.book given.book)

-- ---- a file system is attached

attach_others : (k : KernelState) (direct : Bool) (timeout : ℕ) (at : Position) (f : ℕ) → (k.last_fs + 1 == f) ≡ false → attach_of (attached_at direct timeout k at) f ≡ attach_of k f
attach_others k direct timeout at f other =
    let new : Autofs = record { fs = k.last_fs + 1; direct = direct; location = k.table.last_mount + 1; catatonic = false } in
    found_same _ _ _ _ (find_others (λ (row : Autofs). row.fs == f) k.triggers.autofs new other)
    (find_others (λ (row : Attached). row.fs == f) k.attached (attached_row (k.last_fs + 1) (k.last_attach + 1) timeout) other)

-- a new attachment, under which the file system has no pending record
new_pending : (k : KernelState) (d : DaemonState) (own attach : ℕ) (book : List RecordRow) (g : Trigger) (token : ℕ) → NumbersAreAllocated k d → own ≡ k.last_attach + 1 → Some own ≡ Some attach → is_pending_for token (record_of book g) ≡ false →
    is_pending_for token (record_of book g) ≡ is_to_record attach g (job_of d.jobs token)
new_pending k d own attach book g token given new e none =
    let same : attach ≡ k.last_attach + 1 = cc in
    none ∙ sym (ap (λ (a : ℕ). is_to_record a g (job_of d.jobs token)) same ∙ too_new k d g token given)

attached_by_cases : (k : KernelState) (d : DaemonState) (direct : Bool) (timeout : ℕ) (at : Position) (path : List (List ℕ)) (fs attach : ℕ) (g : Trigger) (token : ℕ) (b : Bool) → (k.last_fs + 1 == fs) ≡ b → NumbersAreAllocated k d → BookAgrees k d →
    IsServed (attached_at direct timeout k at) (with_attachment (k.last_fs + 1) (k.last_attach + 1) path d) fs attach → g.fs ≡ fs → is_pending_for token (record_of d.book g) ≡ is_to_record attach g (job_of d.jobs token)
attached_by_cases k d direct timeout at path fs attach g token true is given h s same =
    let new = k.last_fs + 1 in
    let fs_is : new ≡ fs = equal_by_test new fs is in
    let d_new = with_attachment new (k.last_attach + 1) path d in
    let held : attach_held d_new new ≡ Some attach = subst (λ (n : ℕ). attach_held d_new n ≡ Some attach) (sym fs_is) s.held in
    new_pending k d (k.last_attach + 1) attach d.book g token given refl (sym (held_new d.held new (k.last_attach + 1)) ∙ held)
    (ap (is_pending_for token) (unrecorded k d g given (fs_is ∙ sym same)))
attached_by_cases k d direct timeout at path fs attach g token false other given h s same =
    h.pending fs attach
    (record { current = sym (attach_others k direct timeout at fs other) ∙ s.current; held = sym (held_others d.held (k.last_fs + 1) (k.last_attach + 1) fs other) ∙ s.held })
    g same token

pub attached_kept : (k : KernelState) (d : DaemonState) (direct : Bool) (timeout : ℕ) (at : Position) (path : List (List ℕ)) → NumbersAreAllocated k d → BookAgrees k d →
    BookAgrees (attached_at direct timeout k at) (with_attachment (k.last_fs + 1) (k.last_attach + 1) path d)
attached_kept k d direct timeout at path given h = record {
  pending = λ fs attach s g same token. attached_by_cases k d direct timeout at path fs attach g token (k.last_fs + 1 == fs) refl given h s same;
  held = held_differ d.held (k.last_fs + 1) (k.last_attach + 1) h.held;
  given = held_below d.held (k.last_fs + 1) (k.last_attach + 1) (k.last_fs + 1) (omega arith)
      (All-weaker (λ (row : HeldRow). row.fs ≤ k.last_fs) (λ (row : HeldRow). row.fs ≤ k.last_fs + 1) (λ row least. omega (arith, least)) d.held h.given);
}

-- ---- the daemon dies

pub dead_kept : (k : KernelState) (d : DaemonState) → BookAgrees k d → BookAgrees k (dead d)
dead_kept k d h = record {
  pending = λ fs attach s g same token. let held : None ≡ Some attach = s.held in absurd cc;
  held = tt;
  given = All-nil (λ (row : HeldRow). row.fs ≤ k.last_fs);
}

-- ---- the daemon attaches again

again_by_cases : (k : KernelState) (d : DaemonState) (fs f attach : ℕ) (g : Trigger) (token : ℕ) (b : Bool) → (fs == f) ≡ b → NumbersAreAllocated k d → BookAgrees k d →
    IsServed (with_pipe fs k) (reattached fs (k.last_attach + 1) (standing k fs) d) f attach → g.fs ≡ f →
    is_pending_for token (record_of (all_mounted (standing k fs) (without_fs fs d.book)) g) ≡ is_to_record attach g (job_of d.jobs token)
again_by_cases k d fs f attach g token true is given h s same =
    let d_new = reattached fs (k.last_attach + 1) (standing k fs) d in
    let f_is : fs ≡ f = equal_by_test fs f is in
    let held : attach_held d_new fs ≡ Some attach = subst (λ (n : ℕ). attach_held d_new n ≡ Some attach) (sym f_is) s.held in
    let own : (g.fs == fs) ≡ true = subst (λ (n : ℕ). (n == fs) ≡ true) (f_is ∙ sym same) (equal_to_itself fs) in
    let forgot : record_of (without_fs fs d.book) g ≡ None = forgotten fs g d.book ∙ rw own refl in
    new_pending k d (k.last_attach + 1) attach (all_mounted (standing k fs) (without_fs fs d.book)) g token given refl (sym (held_new d.held fs (k.last_attach + 1)) ∙ held)
    (settled_for token _ (mounted_settled (standing k fs) (without_fs fs d.book) g (rw forgot refl)))
again_by_cases k d fs f attach g token false other given h s same =
    let stays : attach_held (reattached fs (k.last_attach + 1) (standing k fs) d) f ≡ attach_held d f = held_others d.held fs (k.last_attach + 1) f other in
    let apart : (g.fs == fs) ≡ false = subst (λ (n : ℕ). (n == fs) ≡ false) (sym same) (differ_the_other_way fs f other) in
    let kept : record_of (all_mounted (standing k fs) (without_fs fs d.book)) g ≡ record_of d.book g =
    mounted_others (standing k fs) (without_fs fs d.book) g fs (standing_fs k fs) (differ_the_other_way g.fs fs apart) ∙ forgotten fs g d.book ∙ rw apart refl in
    ap (is_pending_for token) kept
    ∙ h.pending f attach (record { current = sym (pipe_others k fs f other) ∙ s.current; held = sym stays ∙ s.held }) g same token

-- a file system that has an autofs was given
known_fs : (k : KernelState) (d : DaemonState) (fs : ℕ) (row : Autofs) → NumbersAreAllocated k d → autofs_of k.triggers fs ≡ Some row → fs ≤ k.last_fs
known_fs k d fs row given e =
    let bound = all_found (λ (r : Autofs). r.fs ≤ k.last_fs) (λ (r : Autofs). r.fs == fs) k.triggers.autofs row given.autofs e in
    let same = equal_by_test row.fs fs (found_passes (λ (r : Autofs). r.fs == fs) k.triggers.autofs row e) in
    subst (λ (n : ℕ). n ≤ k.last_fs) same bound

pub reattached_kept : (k : KernelState) (d : DaemonState) (fs : ℕ) (row : Autofs) → autofs_of k.triggers fs ≡ Some row → NumbersAreAllocated k d → BookAgrees k d →
    BookAgrees (with_pipe fs k) (reattached fs (k.last_attach + 1) (standing k fs) d)
reattached_kept k d fs row e given h =
    record {
      pending = λ f attach s g same token. again_by_cases k d fs f attach g token (fs == f) refl given h s same;
      held = held_differ d.held fs (k.last_attach + 1) h.held;
      given = held_below d.held fs (k.last_attach + 1) k.last_fs (known_fs k d fs row given e) h.given;
    }
