-- A new autofs has no failures of triggers on which something is mounted.
use Rattle.std.proofs.Common.{◌≡◌, ◌∙◌, ℕ, ◌+◌, ◌≤◌, ◌==◌, Bool, true, false, List, Some, None, refl, sym, ap, arith}
use Rattle.std.specs.Prelude.{is_some, Ok}
use Rattle.std.proofs.lemmas.Bool.Decides.{nat_tests}
use Rattle.am_names.specs.{Position}
use Rattle.am_names.specs.declared.trigger.Trigger.{Trigger}
use Rattle.am_names.proofs.Basics.{equal_by_test}
use Rattle.am_propagate.specs.{is_mount}
use Rattle.am_trigger.specs.{Autofs, autofs_of}
use Rattle.am_kernel.specs.{Attached, KernelState, attach_of, is_on_autofs, mounted_on, attached_row, attached_at, position_at, attach_tests, or_else, attach_refusal, new_fs_refusal}
use Rattle.am_daemon.specs.{DaemonState, JobPlan, Point, line_timeout, with_attachment}
use Rattle.am_machine.specs.{NumbersAreAllocated, PlacesAgree, IsMended, FailuresAgree}
use Rattle.am_machine.proofs.Tests.{test_passed}
use Rattle.am_machine.proofs.Lists.Different.{all_found}
use Rattle.am_machine.proofs.Lists.Found.{find_others}
use Rattle.am_machine.proofs.Books.Unchanged.{found_same}
use Rattle.am_machine.proofs.Places.Paths.{position_inside}
use Rattle.am_machine.proofs.TriggerMounts.Attach.{new_row, new_mounted, old_mounted}
use Rattle.am_machine.proofs.TriggerMounts.Unchanged.{attached_autofs}

above : (last fs : ℕ) → fs ≤ last → (last + 1 == fs) ≡ false
above last fs most = grind (arith, nat_tests, most)

module _ (k : KernelState) (d : DaemonState) (given : NumbersAreAllocated k d) (places : PlacesAgree k) (direct : Bool) (timeout : ℕ) (at : Position) (there : is_mount k.table at.mount ≡ true) (off : is_on_autofs k at.mount ≡ false) (h : FailuresAgree k d) where
  abbrev made : KernelState
  made = attached_at direct timeout k at

  autofs_before : (fs : ℕ) → (k.last_fs + 1 == fs) ≡ false → autofs_of made.triggers fs ≡ autofs_of k.triggers fs
  autofs_before fs other = find_others (λ (row : Autofs). row.fs == fs) k.triggers.autofs (new_row k places direct timeout at there off) other

  attach_before : (fs : ℕ) → (k.last_fs + 1 == fs) ≡ false → attach_of made fs ≡ attach_of k fs
  attach_before fs other =
      found_same _ _ _ _ (autofs_before fs other) (find_others (λ (row : Attached). row.fs == fs) k.attached (attached_row (k.last_fs + 1) (k.last_attach + 1) timeout) other)

  mended_by_cases : (g : Trigger) (a : Autofs) (mount : ℕ) → autofs_of made.triggers g.fs ≡ Some a → mounted_on made g ≡ Some mount → (b : Bool) → (k.last_fs + 1 == g.fs) ≡ b → IsMended k g
  mended_by_cases g a mount is on true new =
      let free : mounted_on made g ≡ None = new_mounted k places direct timeout at there off g (equal_by_test (k.last_fs + 1) g.fs new) in
      let no : None ≡ Some mount = sym free ∙ on in
      absurd cc
  mended_by_cases g a mount is on false other =
      let was : autofs_of k.triggers g.fs ≡ Some a = sym (autofs_before g.fs other) ∙ is in
      h.mended g a mount was (sym (old_mounted k places direct timeout at there off g a was other) ∙ on)

  made_failures : (path : List (List ℕ)) → FailuresAgree made (with_attachment (k.last_fs + 1) (k.last_attach + 1) path d)
  made_failures path = record {
    suited = h.suited;
    free = λ job row token error found now is_open missing next.
        let least = all_found (λ (r : JobPlan). (r.attach ≤ k.last_attach) × (r.trigger.fs ≤ k.last_fs)) (λ (r : JobPlan). r.token == job) d.jobs row given.jobs found in
        let other = above k.last_fs row.trigger.fs least.1 in
        let was = sym (attach_before row.trigger.fs other) ∙ now in
        let a = attached_autofs k row.trigger.fs row.attach was in
        old_mounted k places direct timeout at there off row.trigger a.0 a.1 other ∙ h.free job row token error found was is_open missing next;
    mended = λ g a mount is on. mended_by_cases g a mount is on (k.last_fs + 1 == g.fs) refl;
  }

pub attached_failures : (k : KernelState) (d : DaemonState) → NumbersAreAllocated k d → PlacesAgree k → (path : List (List ℕ)) (point : Point) (at : Position) → position_at k 0 path ≡ Ok at → attach_tests k at ≡ None → FailuresAgree k d →
    FailuresAgree (attached_at point.direct (line_timeout d point.entry) k at) (with_attachment (k.last_fs + 1) (k.last_attach + 1) path d)
attached_failures k d given places path point at is may h =
    let off = (test_passed (is_on_autofs k at.mount) _ (or_else (attach_refusal k) (new_fs_refusal k at.mount)) may).0 in
    made_failures k d given places point.direct (line_timeout d point.entry) at (ap is_some (position_inside k places.whole 0 path at is).1) off h path
