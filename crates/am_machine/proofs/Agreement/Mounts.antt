-- What the book says of a trigger with no job at work is so: what is mounted there, with its copies,
-- or that nothing is.
use Rattle.std.proofs.Common.{◌≡◌, ◌<◌, ℕ, List, Some, None, ap, subst, ◌∙◌}
use Rattle.am_names.specs.declared.trigger.Trigger.{Trigger}
use Rattle.am_group.specs.{Receives}
use Rattle.am_mount.specs.{top_of, HasRow, IsAt}
use Rattle.am_mount.proofs.RowLemmas.{IsTopOf, top_is}
use Rattle.am_propagate.specs.MountTable.{MountTable}
use Rattle.am_propagate.specs.{IsWhole}
use Rattle.am_trigger.specs.{Autofs, autofs_of, place_of}
use Rattle.am_state.specs.declared.daemon_row.Record.TheVariants.{Mounted}
use Rattle.am_kernel.specs.{KernelState, location_in, location_of, mounted_on}
use Rattle.am_job.specs.{record_of}
use Rattle.am_daemon.specs.{DaemonState, is_pending, mounted_in}
use Rattle.am_machine.specs.{IsServed, HasCopy, PlacesAgree, AreWritten, IsMounted}
use Rattle.am_machine.proofs.TriggerMounts.Unchanged.{attached_autofs}

-- the top at a place is a mount at that place
pub top_there : (t : MountTable) → IsWhole t → (x m : ℕ) (place : List (List ℕ)) → top_of t.rows x place ≡ Some m → HasRow (IsAt x place) t.rows m
top_there t whole x m place e = (subst (IsTopOf t.rows x place) e (top_is t.rows whole.rising x place)).is_there

-- what is mounted on a trigger of an autofs has its copies
pub copied_on : (k : KernelState) → PlacesAgree k → (g : Trigger) (m : ℕ) (a : Autofs) → autofs_of k.triggers g.fs ≡ Some a → mounted_on k g ≡ Some m → (y : ℕ) → Receives k.table.groups (location_of k g.fs) y → y < m → HasCopy k.table.rows y (place_of g) m
copied_on k h g m a is on y receives less =
    let here : location_of k g.fs ≡ a.location = ap location_in is in
    let row : HasRow (IsAt a.location (place_of g)) k.table.rows m =
    subst (λ (x : ℕ). HasRow (IsAt x (place_of g)) k.table.rows m) here (top_there k.table h.whole (location_of k g.fs) m (place_of g) on) in
    h.copied g.fs a is m y row.0 (place_of g) row.1 row.2 (subst (λ (x : ℕ). Receives k.table.groups x y) here receives) less

module _ (k : KernelState) (d : DaemonState) (settled : AreWritten k d) (fs attach : ℕ) (served : IsServed k d fs attach) where
  -- what the book says to be mounted is mounted, and has its copies
  pub mounted_here : PlacesAgree k → (g : Trigger) (m : ℕ) → g.fs ≡ fs → record_of d.book g ≡ Some (Mounted m) → IsMounted k g m
  mounted_here h g m same e =
      let on : mounted_on k g ≡ Some m = settled fs attach served g same (ap is_pending e) ∙ ap mounted_in e in
      let autofs = attached_autofs k fs attach served.current in
      let is : autofs_of k.triggers g.fs ≡ Some autofs.0 = ap (autofs_of k.triggers) same ∙ autofs.1 in
      record { here = on; copied = copied_on k h g m autofs.0 is on }

  -- where it says nothing, nothing is mounted
  pub nothing_here : (g : Trigger) → g.fs ≡ fs → record_of d.book g ≡ None → mounted_on k g ≡ None
  nothing_here g same e = settled fs attach served g same (ap is_pending e) ∙ ap mounted_in e
