-- What the kernel does that mounts nothing on a trigger, and unmounts nothing from one.
use Rattle.std.proofs.Common.{◌≡◌, ℕ, List, [], ◌∷◌, Option, Some, None, refl, sym, ap, subst, ◌∙◌}
use Rattle.std.specs.Prelude.{is_some, if◌then◌else◌}
use Rattle.std.specs.Option.{option_map}
use Rattle.am_names.specs.declared.trigger.Trigger.{Trigger}
use Rattle.am_names.specs.{MountRow}
use Rattle.am_mount.specs.{IsRising, mount_row, top_of, IsAt}
use Rattle.am_propagate.specs.MountTable.{MountTable}
use Rattle.am_trigger.specs.{Autofs, TriggerRows, autofs_of, trigger_in, place_of}
use Rattle.am_kernel.specs.{KernelState, is_live_row, latest_attach, attach_of, location_in, location_of, mounted_on}
use Rattle.am_daemon.specs.{DaemonState}
use Rattle.am_machine.specs.{IsServed, AreClaimed, AreWritten, OnTriggers}
use Rattle.am_machine.proofs.Books.Unchanged.{Narrows}
use Rattle.am_machine.proofs.TriggerMounts.Tops.{top_same}
use Rattle.am_machine.proofs.Places.Unchanged.{awake, SamePlaces, same_location, was_there}

-- ---- nothing is mounted on a trigger, and nothing unmounted from one

-- on each trigger of the autofs that there were is mounted what was, nothing comes to their locations,
-- and no autofs comes
pub record Still (k made : KernelState) : Type 0 where
  pub still : (g : Trigger) (a : Autofs) → autofs_of k.triggers g.fs ≡ Some a → mounted_on made g ≡ mounted_on k g
  pub rows : (fs : ℕ) (a : Autofs) → autofs_of k.triggers fs ≡ Some a → (m : ℕ) (row : MountRow) (place : List (List ℕ)) → mount_row made.table.rows m ≡ Some row → IsAt a.location place row → mount_row k.table.rows m ≡ Some row
  pub sites : (fs : ℕ) → option_map awake (autofs_of made.triggers fs) ≡ option_map awake (autofs_of k.triggers fs)

pub still_itself : (k : KernelState) → Still k k
still_itself k = record { still = λ g a is. refl; rows = λ fs a is m row place e at. e; sites = λ fs. refl }

pub kept_still : (k made : KernelState) → SamePlaces k made → Still k made
kept_still k made keeps = record {
  still = λ g a is.
      ap (λ (t : MountTable). top_of t.rows (location_of made g.fs) (place_of g)) keeps.table
      ∙ ap (λ (x : ℕ). top_of k.table.rows x (place_of g)) (same_location (autofs_of made.triggers g.fs) (autofs_of k.triggers g.fs) (keeps.sites g.fs));
  rows = λ fs a is m row place e at. subst (λ (t : MountTable). mount_row t.rows m ≡ Some row) keeps.table e;
  sites = keeps.sites;
}

-- the mounts change, but those on locations are the same
pub table_still : (k made : KernelState) → made.triggers ≡ k.triggers → IsRising k.table.rows → IsRising made.table.rows →
    ((fs : ℕ) (a : Autofs) → autofs_of k.triggers fs ≡ Some a → (m : ℕ) (row : MountRow) (place : List (List ℕ)) → mount_row k.table.rows m ≡ Some row → IsAt a.location place row → mount_row made.table.rows m ≡ Some row) →
    ((fs : ℕ) (a : Autofs) → autofs_of k.triggers fs ≡ Some a → (m : ℕ) (row : MountRow) (place : List (List ℕ)) → mount_row made.table.rows m ≡ Some row → IsAt a.location place row → mount_row k.table.rows m ≡ Some row) →
    Still k made
table_still k made same rising rising_made stay rows = record {
  still = λ g a is.
      ap (λ (t : TriggerRows). top_of made.table.rows (location_in (autofs_of t g.fs)) (place_of g)) same
      ∙ subst (λ (x : ℕ). top_of made.table.rows x (place_of g) ≡ top_of k.table.rows x (place_of g)) (sym (ap location_in is))
      (top_same k.table.rows made.table.rows a.location (place_of g) rising rising_made
      (λ m r. (r.0, stay g.fs a is m r.0 (place_of g) r.1 r.2, r.2))
      (λ m r. (r.0, rows g.fs a is m r.0 (place_of g) r.1 r.2, r.2)));
  rows = rows;
  sites = λ fs. ap (λ (t : TriggerRows). option_map awake (autofs_of t fs)) same;
}

-- ---- what is served is an autofs

live_autofs : (o : Option Autofs) (row : Option ℕ) (attach : ℕ) → (if is_live_row o then row else None) ≡ Some attach → (a : Autofs) × (o ≡ Some a)
live_autofs None row attach e = absurd cc
live_autofs (Some a) row attach e = (a, refl)

pub attached_autofs : (k : KernelState) (fs attach : ℕ) → attach_of k fs ≡ Some attach → (a : Autofs) × (autofs_of k.triggers fs ≡ Some a)
attached_autofs k fs attach e = live_autofs (autofs_of k.triggers fs) (latest_attach k.attached fs) attach e

-- the autofs of a trigger
pub its_autofs : (k : KernelState) (fs attach : ℕ) (g : Trigger) → attach_of k fs ≡ Some attach → g.fs ≡ fs → (a : Autofs) × (autofs_of k.triggers g.fs ≡ Some a)
its_autofs k fs attach g e same = attached_autofs k g.fs attach (subst (λ (n : ℕ). attach_of k n ≡ Some attach) (sym same) e)

-- ---- what the daemon knows stays right

-- what it knows of the mounts: all of the agreement but that they are on triggers
pub record Knows (k : KernelState) (d : DaemonState) : Type 0 where
  pub at_work : AreClaimed k d
  pub settled : AreWritten k d

pub stands_still : (k made : KernelState) (d : DaemonState) → Narrows k made → Still k made → Knows k d → Knows made d
stands_still k made d n still h = record {
  at_work = λ fs attach s job row found same under left.
      let was : IsServed k d fs attach = record { current = n.current fs attach s.current; held = s.held } in
      let its = its_autofs k fs attach row.trigger was.current same in
      still.still row.trigger its.0 its.1 ∙ h.at_work fs attach was job row found same under left;
  settled = λ fs attach s g same written.
      let was : IsServed k d fs attach = record { current = n.current fs attach s.current; held = s.held } in
      let its = its_autofs k fs attach g was.current same in
      still.still g its.0 its.1 ∙ h.settled fs attach was g same written;
}

-- ---- what is mounted on a location is on a trigger

fits_awake : (a : Autofs) (place : List (List ℕ)) → trigger_in (awake a) place ≡ trigger_in a place
fits_awake a [] = refl
fits_awake a (name ∷ []) = refl
fits_awake a (name ∷ below ∷ names) = refl

pub on_still : (k made : KernelState) → Still k made → OnTriggers k → OnTriggers made
on_still k made still h = record {
  on = λ fs a is m row place e at.
      let before = was_there (autofs_of made.triggers fs) (autofs_of k.triggers fs) a (still.sites fs) is in
      let here : IsAt before.was.location place row = subst (λ (b : Autofs). IsAt b.location place row) (sym before.same) at in
      ap is_some (sym (fits_awake a place) ∙ ap (λ (b : Autofs). trigger_in b place) (sym before.same) ∙ fits_awake before.was place)
      ∙ h.on fs before.was before.is_was m row place (still.rows fs before.was before.is_was m row place e here) here;
}
