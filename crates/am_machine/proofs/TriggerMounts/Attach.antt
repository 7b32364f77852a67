-- Nothing is mounted on a new autofs, and nothing is written down of it; of a daemon that died
-- nothing is served.
use Rattle.std.proofs.Common.{◌≡◌, ℕ, ◌+◌, ◌≤◌, Bool, true, false, List, Option, Some, None, refl, sym, ap, subst, ◌∙◌, inl, ⊎_elim, arith}
use Rattle.std.specs.Prelude.{◌==◌, is_some}
use Rattle.std.proofs.lemmas.List.Elements.{All-weaker}
use Rattle.am_names.specs.declared.trigger.Trigger.{Trigger}
use Rattle.am_names.specs.{MountRow, Position}
use Rattle.am_names.proofs.Basics.{equal_to_itself, equal_by_test, some_injective}
use Rattle.am_names.specs.declared.membership.Membership.TheVariants.{Private}
use Rattle.am_state.specs.{RecordRow}
use Rattle.am_mount.specs.{mount_row, top_of, IsAt, HasNoMountAt}
use Rattle.am_propagate.specs.{is_mount, IsWhole, mounted}
use Rattle.am_propagate.proofs.AdditionLemmas.{mounted_whole}
use Rattle.am_propagate.proofs.RemovalLemmas.{some_of}
use Rattle.am_trigger.specs.{Autofs, autofs_of, trigger_in, place_of}
use Rattle.am_job.specs.{record_of, claims}
use Rattle.am_daemon.specs.{is_pending, mounted_in, DaemonState, JobPlan, attach_held, with_attachment, dead, job_of}
use Rattle.am_kernel.specs.{Attached, KernelState, attach_of, is_on_autofs, location_in, mounted_on, attached_row, attached_at}
use Rattle.am_machine.specs.{NumbersAreAllocated, PlacesAgree, IsServed, OnTriggers}
use Rattle.am_machine.proofs.Places.Rows.{receiver_row, parent_row}
use Rattle.am_machine.proofs.Places.Added.{mounted_grows}
use Rattle.am_machine.proofs.Places.Grown.{came_at}
use Rattle.am_machine.proofs.Books.Pending.{no_record}
use Rattle.am_machine.proofs.Lists.Different.{all_found}
use Rattle.am_machine.proofs.Lists.Found.{find_others, find_new}
use Rattle.am_machine.proofs.Attachments.Held.{held_others}
use Rattle.am_machine.proofs.Books.Unchanged.{found_same}
use Rattle.am_machine.proofs.TriggerMounts.Tops.{no_top}
use Rattle.am_machine.proofs.TriggerMounts.Unchanged.{Knows, its_autofs}
use Rattle.am_machine.proofs.TriggerMounts.Administrator.{mounted_still}

-- ---- the daemon dies

pub dead_stands : (k : KernelState) (d : DaemonState) → Knows k d → Knows k (dead d)
dead_stands k d h = record {
  at_work = λ fs attach s job row found same under left. let held : None ≡ Some attach = s.held in absurd cc;
  settled = λ fs attach s g same written. let held : None ≡ Some attach = s.held in absurd cc;
}

-- ---- an autofs is attached

-- no autofs has the next number
none_yet : (k : KernelState) → PlacesAgree k → (fs : ℕ) → k.last_fs + 1 ≡ fs → autofs_of k.triggers fs ≡ None
none_yet k h fs new = by (autofs_of k.triggers fs) refl
  where
    by : (o : Option Autofs) → autofs_of k.triggers fs ≡ o → o ≡ None
    by None e = refl
    by (Some a) e = let given : fs ≤ k.last_fs = h.given_autofs fs a e in absurd (omega arith)

module _ (k : KernelState) (h : PlacesAgree k) (direct : Bool) (timeout : ℕ) (at : Position) (there : is_mount k.table at.mount ≡ true) (off : is_on_autofs k at.mount ≡ false) where
  abbrev pub new_row : Autofs
  new_row = record { fs = k.last_fs + 1; direct = direct; location = k.table.last_mount + 1; catatonic = false }

  whole : IsWhole (mounted at (k.last_fs + 1) Private k.table)
  whole = mounted_whole k.table h.whole at (k.last_fs + 1) Private there (inl refl)

  -- all is mounted on what was there
  new_free : (place : List (List ℕ)) → HasNoMountAt (mounted at (k.last_fs + 1) Private k.table).rows (k.table.last_mount + 1) place
  new_free place m r = ⊎_elim
      (λ old.
      let parent = parent_row k.table h.whole m (k.table.last_mount + 1) r.0 place old r.2 in
      let le : k.table.last_mount + 1 ≤ k.table.last_mount = (h.whole.numbered (k.table.last_mount + 1) parent.0 parent.1).0 in
      omega arith)
      (λ above. ⊎_elim
      (λ same.
      let row = some_of (mount_row k.table.rows at.mount) there in
      let le : at.mount ≤ k.table.last_mount = (h.whole.numbered at.mount row.0 row.1).0 in
      omega arith)
      (λ receives.
      let row = receiver_row k.table h.whole at.mount (k.table.last_mount + 1) receives in
      let le : k.table.last_mount + 1 ≤ k.table.last_mount = (h.whole.numbered (k.table.last_mount + 1) row.0 row.1).0 in
      omega arith)
      (came_at k h at (k.last_fs + 1) Private m r.0 (k.table.last_mount + 1) place above r.1 r.2))
      ((mounted_grows k.table h.whole at (k.last_fs + 1) Private).came m r.0 r.1)

  pub new_mounted : (g : Trigger) → k.last_fs + 1 ≡ g.fs → mounted_on (attached_at direct timeout k at) g ≡ None
  new_mounted g new =
      let found : autofs_of (attached_at direct timeout k at).triggers g.fs ≡ Some new_row =
      find_new (λ (row : Autofs). row.fs == g.fs) k.triggers.autofs new_row (none_yet k h g.fs new) (subst (λ (n : ℕ). (k.last_fs + 1 == n) ≡ true) new (equal_to_itself (k.last_fs + 1))) in
      ap (λ (x : ℕ). top_of (attached_at direct timeout k at).table.rows x (place_of g)) (ap location_in found)
      ∙ no_top (attached_at direct timeout k at).table.rows (k.table.last_mount + 1) (place_of g) whole.rising (new_free (place_of g))

  -- on the other triggers is mounted what was
  pub old_mounted : (g : Trigger) (a : Autofs) → autofs_of k.triggers g.fs ≡ Some a → (k.last_fs + 1 == g.fs) ≡ false → mounted_on (attached_at direct timeout k at) g ≡ mounted_on k g
  old_mounted g a is other =
      ap (λ (o : Option Autofs). top_of (attached_at direct timeout k at).table.rows (location_in o) (place_of g)) (find_others (λ (row : Autofs). row.fs == g.fs) k.triggers.autofs new_row other)
      ∙ (mounted_still k at (k.last_fs + 1) (k.last_fs + 1) Private h there off (inl refl)).still g a is

  -- what is mounted on the locations is mounted on those that there were
  on_by_cases : OnTriggers k → (fs : ℕ) (a : Autofs) → autofs_of (attached_at direct timeout k at).triggers fs ≡ Some a → (m : ℕ) (row : MountRow) (place : List (List ℕ)) → mount_row (attached_at direct timeout k at).table.rows m ≡ Some row → IsAt a.location place row → (b : Bool) → (k.last_fs + 1 == fs) ≡ b →
      is_some (trigger_in a place) ≡ true
  on_by_cases on fs a is m row place e here true new =
      let fs_is = equal_by_test (k.last_fs + 1) fs new in
      let found : autofs_of (attached_at direct timeout k at).triggers fs ≡ Some new_row = find_new (λ (r : Autofs). r.fs == fs) k.triggers.autofs new_row (none_yet k h fs fs_is) new in
      let both : Some new_row ≡ Some a = sym found ∙ is in
      absurd (new_free place m (row, e, subst (λ (x : Autofs). IsAt x.location place row) (sym (some_injective both)) here))
  on_by_cases on fs a is m row place e here false other =
      let old : autofs_of k.triggers fs ≡ Some a = sym (find_others (λ (r : Autofs). r.fs == fs) k.triggers.autofs new_row other) ∙ is in
      on.on fs a old m row place ((mounted_still k at (k.last_fs + 1) (k.last_fs + 1) Private h there off (inl refl)).rows fs a old m row place e here) here

  pub attached_on_triggers : OnTriggers k → OnTriggers (attached_at direct timeout k at)
  attached_on_triggers on = record { on = λ fs a is m row place e here. on_by_cases on fs a is m row place e here (k.last_fs + 1 == fs) refl }

  served_before : (d : DaemonState) (path : List (List ℕ)) (fs attach : ℕ) → (k.last_fs + 1 == fs) ≡ false → IsServed (attached_at direct timeout k at) (with_attachment (k.last_fs + 1) (k.last_attach + 1) path d) fs attach → IsServed k d fs attach
  served_before d path fs attach other s =
      let current : attach_of (attached_at direct timeout k at) fs ≡ attach_of k fs =
      found_same _ _ _ _ (find_others (λ (row : Autofs). row.fs == fs) k.triggers.autofs new_row other)
      (find_others (λ (row : Attached). row.fs == fs) k.attached (attached_row (k.last_fs + 1) (k.last_attach + 1) timeout) other) in
      let holds : attach_held (with_attachment (k.last_fs + 1) (k.last_attach + 1) path d) fs ≡ attach_held d fs = held_others d.held (k.last_fs + 1) (k.last_attach + 1) fs other in
      record { current = sym current ∙ s.current; held = sym holds ∙ s.held }

  module _ (d : DaemonState) (path : List (List ℕ)) (given : NumbersAreAllocated k d) (stands : Knows k d) where
    abbrev made : KernelState
    made = attached_at direct timeout k at

    abbrev d_new : DaemonState
    d_new = with_attachment (k.last_fs + 1) (k.last_attach + 1) path d

    at_work_by_cases : (fs attach : ℕ) (b : Bool) → (k.last_fs + 1 == fs) ≡ b → IsServed made d_new fs attach → (job : ℕ) (row : JobPlan) → job_of d.jobs job ≡ Some row → row.trigger.fs ≡ fs → (IsServed k d fs attach → mounted_on k row.trigger ≡ claims row.plan) → mounted_on made row.trigger ≡ claims row.plan
    at_work_by_cases fs attach true is s job row found same old =
        let bound = all_found (λ (r : JobPlan). (r.attach ≤ k.last_attach) × (r.trigger.fs ≤ k.last_fs)) (λ (r : JobPlan). r.token == job) d.jobs row given.jobs found in
        let le : row.trigger.fs ≤ k.last_fs = bound.1 in
        let new : k.last_fs + 1 ≡ fs = equal_by_test (k.last_fs + 1) fs is in
        absurd (omega arith)
    at_work_by_cases fs attach false other s job row found same old =
        let was = served_before d path fs attach other s in
        let its = its_autofs k fs attach row.trigger was.current same in
        old_mounted row.trigger its.0 its.1 (subst (λ (n : ℕ). (k.last_fs + 1 == n) ≡ false) (sym same) other) ∙ old was

    settled_by_cases : (fs attach : ℕ) (g : Trigger) (b : Bool) → (k.last_fs + 1 == fs) ≡ b → IsServed made d_new fs attach → g.fs ≡ fs → is_pending (record_of d.book g) ≡ false → mounted_on made g ≡ mounted_in (record_of d.book g)
    settled_by_cases fs attach g true is s same written =
        let new : k.last_fs + 1 ≡ g.fs = equal_by_test (k.last_fs + 1) fs is ∙ sym same in
        let none : record_of d.book g ≡ None =
        no_record d.book g (All-weaker (λ (row : RecordRow). row.trigger.fs ≤ k.last_fs) (λ (row : RecordRow). row.trigger.fs ≡ g.fs → ⊥) (λ row least e. omega (arith, least, e, new)) d.book given.book) in
        new_mounted g new ∙ sym (ap mounted_in none)
    settled_by_cases fs attach g false other s same written =
        let was = served_before d path fs attach other s in
        let its = its_autofs k fs attach g was.current same in
        old_mounted g its.0 its.1 (subst (λ (n : ℕ). (k.last_fs + 1 == n) ≡ false) (sym same) other) ∙ stands.settled fs attach was g same written

    pub attached_stands : Knows made d_new
    attached_stands = record {
      at_work = λ fs attach s job row found same under left.
          at_work_by_cases fs attach (k.last_fs + 1 == fs) refl s job row found same (λ was. stands.at_work fs attach was job row found same under left);
      settled = λ fs attach s g same written. settled_by_cases fs attach g (k.last_fs + 1 == fs) refl s same written;
    }
