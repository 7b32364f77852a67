-- What a daemon unmounts from a trigger has gone there, and stays on the other triggers.
use Rattle.std.proofs.Common.{◌≡◌, ℕ, true, false, List, Some, None, sym, ◌∙◌, ap, subst, ⊎_elim}
use Rattle.am_names.specs.{same_trigger, MountRow, is_among}
use Rattle.am_names.specs.declared.trigger.Trigger.{Trigger}
use Rattle.am_names.proofs.Basics.{some_injective, false_unless_true}
use Rattle.am_group.specs.{Receives}
use Rattle.am_mount.specs.{mount_row, top_of, HasRow, IsAt}
use Rattle.am_mount.proofs.RowLemmas.{RiseFrom-filter}
use Rattle.am_propagate.specs.{mountpoint_in, mountpoint_of, unmounted, removed}
use Rattle.am_trigger.specs.{Autofs, autofs_of, place_of}
use Rattle.am_kernel.specs.{KernelState, location_in, location_of, mounted_on, trigger_position, without_mounts}
use Rattle.am_machine.specs.{PlacesAgree, OnTriggers}
use Rattle.am_machine.proofs.Places.Rows.{Shrinks}
use Rattle.am_machine.proofs.Places.Grown.{position, mounts_same, places_same}
use Rattle.am_machine.proofs.Places.Left.{removed_shrinks, goes_cases, itself_goes, its_number}
use Rattle.am_machine.proofs.TriggerMounts.Tops.{top_same, no_top, top_there}
use Rattle.am_machine.proofs.TriggerMounts.Mounts.{location_is, one_trigger, none_receives}

module _ (k : KernelState) (h : PlacesAgree k) (t : Trigger) (b : Autofs) (is_b : autofs_of k.triggers t.fs ≡ Some b) (m : ℕ) (is_m : mounted_on k t ≡ Some m) where
  there : HasRow (IsAt (location_of k t.fs) (place_of t)) k.table.rows m
  there = top_there k.table.rows (location_of k t.fs) (place_of t) m h.whole.rising is_m

  mountpoint_is : mountpoint_of k.table m ≡ Some (trigger_position k t)
  mountpoint_is = ap mountpoint_in there.1 ∙ there.2

  shrinks : Shrinks k.table (removed (unmounted k.table m) k.table) (is_among (unmounted k.table m))
  shrinks = removed_shrinks k.table h.whole (unmounted k.table m)

  -- what goes from a location goes from this place
  record Goes (x : ℕ) (place : List (List ℕ)) : Type 0 where
    location : x ≡ location_of k t.fs
    place_is : place ≡ place_of t

  goes_here : (fs : ℕ) (a : Autofs) → autofs_of k.triggers fs ≡ Some a → (n : ℕ) (row : MountRow) (place : List (List ℕ)) → mount_row k.table.rows n ≡ Some row → IsAt a.location place row → is_among (unmounted k.table m) n ≡ true → Goes a.location place
  goes_here fs a is n row place e on goes = ⊎_elim
      (λ same.
      let one : there.0 ≡ row = some_injective (sym there.1 ∙ ap (mount_row k.table.rows) (sym same ∙ its_number k.table.rows n row e) ∙ e) in
      let here : IsAt (location_of k t.fs) (place_of t) row = subst (λ (r : MountRow). IsAt (location_of k t.fs) (place_of t) r) one there.2 in
      let both : Some (position a.location place) ≡ Some (position (location_of k t.fs) (place_of t)) = sym on ∙ here in
      record {
        location = mounts_same a.location (location_of k t.fs) place (place_of t) both;
        place_is = places_same a.location (location_of k t.fs) place (place_of t) both;
      })
      (λ top. absurd (none_receives k h t b is_b fs a is
      (subst (λ (x : ℕ). Receives k.table.groups (location_of k t.fs) x) (mounts_same top.on.mount a.location top.on.place place (sym top.is_on ∙ on)) top.receives)))
      (goes_cases k.table h.whole m (trigger_position k t) mountpoint_is n row e goes)

  pub unmounted_others : (g : Trigger) (a : Autofs) → autofs_of k.triggers g.fs ≡ Some a → same_trigger t g ≡ false → mounted_on (without_mounts (unmounted k.table m) k) g ≡ mounted_on k g
  unmounted_others g a is other =
      let rows = (removed (unmounted k.table m) k.table).rows in
      subst (λ (x : ℕ). top_of rows x (place_of g) ≡ top_of k.table.rows x (place_of g)) (sym (ap location_in is))
      (top_same k.table.rows rows a.location (place_of g) h.whole.rising (RiseFrom-filter _ 0 k.table.rows h.whole.rising)
      (λ n r.
      let stays : is_among (unmounted k.table m) n ≡ false =
      false_unless_true (is_among (unmounted k.table m) n) (λ goes.
      let from = goes_here g.fs a is n r.0 (place_of g) r.1 r.2 goes in
      one_trigger k h t b is_b g a is other from.location from.place_is) in
      (r.0, shrinks.stays n r.0 stays r.1, r.2))
      (λ n r. (r.0, (shrinks.was n r.0 r.1).1, r.2)))

  pub unmounted_here : mounted_on (without_mounts (unmounted k.table m) k) t ≡ None
  unmounted_here =
      no_top (removed (unmounted k.table m) k.table).rows (location_of k t.fs) (place_of t) (RiseFrom-filter _ 0 k.table.rows h.whole.rising) (λ n r.
      let was = shrinks.was n r.0 r.1 in
      let at : (row : MountRow) → IsAt (location_of k t.fs) (place_of t) row → IsAt b.location (place_of t) row = λ row on. subst (λ (x : ℕ). IsAt x (place_of t) row) (location_is k h t b is_b) on in
      let one : n ≡ m = h.one t.fs b is_b n m r.0 there.0 (place_of t) was.1 there.1 (at r.0 r.2) (at there.0 there.2) in
      let itself : is_among (unmounted k.table m) m ≡ true = itself_goes k.table h.whole m there.0 there.1 (its_number k.table.rows m there.0 there.1) in
      let no : true ≡ false = sym itself ∙ ap (is_among (unmounted k.table m)) (sym one) ∙ was.0 in
      cc)

  pub unmounted_on_triggers : OnTriggers k → OnTriggers (without_mounts (unmounted k.table m) k)
  unmounted_on_triggers on = record { on = λ fs a is n row place e at. on.on fs a is n row place (shrinks.was n row e).1 at }
