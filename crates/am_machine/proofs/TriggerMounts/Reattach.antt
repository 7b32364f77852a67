-- A daemon that attaches again knows what is mounted: of the file system it serves again it has
-- written down what is there, and of the others it knows what it knew.
use Rattle.std.proofs.Common.{◌≡◌, ℕ, ◌+◌, ◌≤◌, Bool, true, false, Some, None, refl, sym, ap, subst, ◌∙◌, arith}
use Rattle.std.specs.Prelude.{◌==◌}
use Rattle.am_names.specs.declared.trigger.Trigger.{Trigger}
use Rattle.am_names.proofs.Basics.{equal_to_itself, equal_by_test, some_injective, differ_the_other_way}
use Rattle.am_trigger.specs.{Autofs, autofs_of}
use Rattle.am_job.specs.{record_of, without_fs, claims}
use Rattle.am_job.proofs.BookLemmas.{forgotten}
use Rattle.am_kernel.specs.{KernelState, with_pipe, mounted_on, standing}
use Rattle.am_daemon.specs.{DaemonState, JobPlan, attach_held, all_mounted, reattached, job_of, is_pending, mounted_in}
use Rattle.am_machine.specs.{NumbersAreAllocated, PlacesAgree, IsServed, OnTriggers}
use Rattle.am_machine.proofs.Lists.Different.{all_found}
use Rattle.am_machine.proofs.Attachments.Held.{held_new, held_others}
use Rattle.am_machine.proofs.Books.Unchanged.{pipe_others}
use Rattle.am_machine.proofs.Books.Standing.{mounted_others, standing_fs}
use Rattle.am_machine.proofs.TriggerMounts.Unchanged.{Knows, Still, kept_still, its_autofs}
use Rattle.am_machine.proofs.TriggerMounts.Standing.{standing_written}
use Rattle.am_machine.proofs.Places.Unchanged.{marked_sites}

pub pipe_still : (k : KernelState) (fs : ℕ) → Still k (with_pipe fs k)
pipe_still k fs = kept_still k (with_pipe fs k) (record { table = refl; last_fs = refl; sites = marked_sites fs false k.triggers })

module _ (k : KernelState) (d : DaemonState) (fs : ℕ) (a : Autofs) (is : autofs_of k.triggers fs ≡ Some a) (given : NumbersAreAllocated k d) (places : PlacesAgree k) (on : OnTriggers k) (h : Knows k d) where
  abbrev made : KernelState
  made = with_pipe fs k

  abbrev d_new : DaemonState
  d_new = reattached fs (k.last_attach + 1) (standing k fs) d

  -- ---- the file system

  new_attach : (f attach : ℕ) → (fs == f) ≡ true → IsServed made d_new f attach → attach ≡ k.last_attach + 1
  new_attach f attach is_fs s =
      let held : attach_held d_new fs ≡ Some attach = subst (λ (n : ℕ). attach_held d_new n ≡ Some attach) (sym (equal_by_test fs f is_fs)) s.held in
      some_injective (sym held ∙ held_new d.held fs (k.last_attach + 1))

  -- no job is of the new attachment
  none_at_work : (f attach : ℕ) → (fs == f) ≡ true → IsServed made d_new f attach → (job : ℕ) (row : JobPlan) → job_of d.jobs job ≡ Some row → row.attach ≡ attach → ⊥
  none_at_work f attach is_fs s job row found under =
      let bound = all_found (λ (r : JobPlan). (r.attach ≤ k.last_attach) × (r.trigger.fs ≤ k.last_fs)) (λ (r : JobPlan). r.token == job) d.jobs row given.jobs found in
      let le : row.attach ≤ k.last_attach = bound.0 in
      let new : attach ≡ k.last_attach + 1 = new_attach f attach is_fs s in
      omega arith

  settled_here : (g : Trigger) → fs ≡ g.fs → mounted_on made g ≡ mounted_in (record_of d_new.book g)
  settled_here g same =
      let its : autofs_of k.triggers g.fs ≡ Some a = ap (autofs_of k.triggers) (sym same) ∙ is in
      let own : (g.fs == fs) ≡ true = subst (λ (n : ℕ). (g.fs == n) ≡ true) (sym same) (equal_to_itself g.fs) in
      let forgot : record_of (without_fs fs d.book) g ≡ None = forgotten fs g d.book ∙ rw own refl in
      let written : mounted_in (record_of (all_mounted (standing k g.fs) (without_fs fs d.book)) g) ≡ mounted_on k g = standing_written k places g a its on (without_fs fs d.book) forgot in
      (pipe_still k fs).still g a its ∙ sym (subst (λ (n : ℕ). mounted_in (record_of (all_mounted (standing k n) (without_fs fs d.book)) g) ≡ mounted_on k g) (sym same) written)

  -- ---- the others

  served_before : (f attach : ℕ) → (fs == f) ≡ false → IsServed made d_new f attach → IsServed k d f attach
  served_before f attach other s =
      let stays : attach_held d_new f ≡ attach_held d f = held_others d.held fs (k.last_attach + 1) f other in
      record { current = sym (pipe_others k fs f other) ∙ s.current; held = sym stays ∙ s.held }

  record_stays : (g : Trigger) (f : ℕ) → (fs == f) ≡ false → g.fs ≡ f → record_of d_new.book g ≡ record_of d.book g
  record_stays g f other same =
      let apart : (fs == g.fs) ≡ false = subst (λ (n : ℕ). (fs == n) ≡ false) (sym same) other in
      mounted_others (standing k fs) (without_fs fs d.book) g fs (standing_fs k fs) apart ∙ forgotten fs g d.book ∙ rw (differ_the_other_way fs g.fs apart) refl

  -- ---- all of them

  at_work_by_cases : (f attach : ℕ) (b : Bool) → (fs == f) ≡ b → IsServed made d_new f attach → (job : ℕ) (row : JobPlan) → job_of d.jobs job ≡ Some row → row.trigger.fs ≡ f → row.attach ≡ attach → (IsServed k d f attach → mounted_on k row.trigger ≡ claims row.plan) → mounted_on made row.trigger ≡ claims row.plan
  at_work_by_cases f attach true is_fs s job row found same under old = absurd (none_at_work f attach is_fs s job row found under)
  at_work_by_cases f attach false other s job row found same under old =
      let was = served_before f attach other s in
      let its = its_autofs k f attach row.trigger was.current same in
      (pipe_still k fs).still row.trigger its.0 its.1 ∙ old was

  settled_by_cases : (f attach : ℕ) (g : Trigger) (b : Bool) → (fs == f) ≡ b → IsServed made d_new f attach → g.fs ≡ f → is_pending (record_of d_new.book g) ≡ false → mounted_on made g ≡ mounted_in (record_of d_new.book g)
  settled_by_cases f attach g true is_fs s same written = settled_here g (equal_by_test fs f is_fs ∙ sym same)
  settled_by_cases f attach g false other s same written =
      let was = served_before f attach other s in
      let its = its_autofs k f attach g was.current same in
      let record_is = record_stays g f other same in
      (pipe_still k fs).still g its.0 its.1 ∙ h.settled f attach was g same (ap is_pending (sym record_is) ∙ written) ∙ ap mounted_in (sym record_is)

  pub reattached_stands : Knows made d_new
  reattached_stands = record {
    at_work = λ f attach s job row found same under rest. at_work_by_cases f attach (fs == f) refl s job row found same under (λ was. h.at_work f attach was job row found same under rest);
    settled = λ f attach s g same written. settled_by_cases f attach g (fs == f) refl s same written;
  }
