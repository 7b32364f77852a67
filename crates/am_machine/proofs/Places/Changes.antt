-- Each change keeps the agreement on places and the law of receivers, and so does each event.
use Rattle.std.proofs.Common.{◌≡◌, ◌≢◌, ◌≤◌, ℕ, ◌+◌, ◌||◌, ◌&&◌, ◌==◌, Bool, true, false, not, List, [], ◌∷◌, Option, Some, None, refl, sym, ◌∙◌, ap, subst, inl, inr, ⊎_elim, arith}
use Rattle.std.specs.Prelude.{is_some, is_none, Ok, IfNone, IfSome}
use Rattle.std.specs.List.{list_any}
use Rattle.std.proofs.lemmas.Bool.{eq-eqb, eqb-true, or_cases, and_parts}
use Rattle.am_names.specs.{Position, TokenKind, WaitRow}
use Rattle.am_names.specs.declared.row.TokenKind.TheVariants.{Missing, Expire}
use Rattle.am_names.specs.declared.trigger.Trigger.{Trigger}
use Rattle.am_names.proofs.Basics.{none_where_not_some, true_where_not_false}
use Rattle.am_state.specs.{Obs}
use Rattle.am_names.specs.declared.membership.Membership.TheVariants.{Private}
use Rattle.am_group.specs.{AddsNoReceivers}
use Rattle.am_mount.specs.{mount_row, IsTop, HasNoMountAt}
use Rattle.am_mount.proofs.RowLemmas.{top_is, some_greatest, none_free}
use Rattle.am_propagate.specs.MountTable.{MountTable}
use Rattle.am_propagate.specs.{is_mount, mountpoint_in, mountpoint_of, fs_in, membership_of, is_bare, unmounted, umount_refusal, mounts_in}
use Rattle.am_propagate.specs.Added as added
use Rattle.am_propagate.proofs.AdditionLemmas.{mounted_law}
use Rattle.am_propagate.proofs.RemovalLemmas.{some_of, removed_law}
use Rattle.am_propagate.proofs.NamespaceLemmas.{with_copy_law}
use Rattle.am_propagate.proofs.KindLemmas.{changed_keeps}
use Rattle.am_trigger.specs.{Autofs, autofs_of, place_of}
use Rattle.am_expire.specs.{is_used}
use Rattle.am_kernel.specs.{Attached, KernelState, with_latest, is_live_row, is_live, is_attached_by, is_current, is_on_autofs, position_at, or_else, root_refusal, fs_refusal, attach_refusal, new_fs_refusal, is_there, location_in, location_of, mounted_on, mount_on_refusal, trigger_position, with_mount, attach_tests, attached_at, with_mount_on, gone_with, without_mounts, mount_tests, source_refusal, bind_tests, bound_at, is_parent_on_autofs, is_any_on_autofs, is_daemons, site_refusal, umount_tests, gone_at, made_catatonic}
use Rattle.am_kernel.specs.Resumes as resumes
use Rattle.am_daemon.specs.{line_timeout, JobPlan}
use Rattle.am_machine.specs.{Event, after, outcome_of, PlacesAgree}
use Rattle.am_machine.specs.State.{State}
use Rattle.am_machine.proofs.Tests.{test_passed, first_passed, others_passed}
use Rattle.am_machine.proofs.Places.Unchanged.{kept_places, SamePlaces, keeps_all, keeps_then, keeps_latest, marked_sites}
use Rattle.am_machine.proofs.Places.Grown.{mounted_places, mounted_here}
use Rattle.am_machine.proofs.Places.Umounts.{plain_places, dropped_places, daemons_places}
use Rattle.am_machine.proofs.Places.Copies.{copied_places, changed_places}
use Rattle.am_machine.proofs.Places.Paths.{position_inside}
use Rattle.am_machine.proofs.Places.Attach.{attached_places}
use Rattle.am_machine.proofs.Tour.Walks as tour
use Rattle.am_machine.proofs.Tour.Walks.{AnyPath}
use Rattle.am_machine.proofs.Tour.Events as tours
use Rattle.am_machine.proofs.Tour.Events.{IsUnmounted, any_event, AnyJob}

-- ---- what walkers do changes no mount, and of an autofs just whether it is catatonic

abbrev pub KeepsBy : KernelState → List Obs → KernelState → Type 0
KeepsBy k shown made = SamePlaces k made

pub closes : (k : KernelState) (fs : ℕ) → SamePlaces k (made_catatonic fs k)
closes k fs = record { table = refl; last_fs = refl; sites = marked_sites fs true k.triggers }

freed : (kind : TokenKind) (k : KernelState) (wait : WaitRow) (moment : ℕ) → SamePlaces k (resumes.wait_collected_from kind wait moment k)
freed Missing k wait moment = record { table = refl; last_fs = refl; sites = λ fs. refl }
freed Expire k wait moment = record { table = refl; last_fs = refl; sites = λ fs. refl }

pub walks : tour.Keeps AnyPath KeepsBy
walks = record {
  nothing = keeps_all;
  arrived = λ k attempt at passed w. record { table = refl; last_fs = refl; sites = λ fs. refl };
  joined = λ k attempt token passed w. record { table = refl; last_fs = refl; sites = λ fs. refl };
  notified = λ k attempt trigger attach passed w is. record { table = refl; last_fs = refl; sites = λ fs. refl };
  expiring = λ k walker fs moment immediate trigger attach x. record { table = refl; last_fs = refl; sites = λ fs. refl };
  made_catatonic = closes;
  collected = λ k kind wait status moment shown made g later. keeps_then k (resumes.wait_collected_from kind wait moment k) made (freed kind k wait moment) later;
}

-- ---- what an event leaves

-- the agreement on places is left, and no mount receives more
pub record Placed (k made : KernelState) : Type 0 where
  pub places : PlacesAgree made
  pub law : AddsNoReceivers k.table.groups made.table.groups

record StaysPlaced (s : State) (shown : List Obs) (t : State) : Type 0 where
  holds : PlacesAgree s.kernel → Placed s.kernel t.kernel

placed_kept : (k made : KernelState) → SamePlaces k made → PlacesAgree k → Placed k made
placed_kept k made keeps h = record {
  places = kept_places k made keeps h;
  law = subst (λ (t : MountTable). AddsNoReceivers k.table.groups t.groups) (sym keeps.table) (λ b c there other r. r);
}

-- neither mounts nor locations change
quietly : (s : State) (shown : List Obs) (t : State) → SamePlaces s.kernel t.kernel → StaysPlaced s shown t
quietly s shown t keeps = record { holds = placed_kept s.kernel t.kernel keeps }

-- ---- mounts come

attach_at : (k : KernelState) (path : List (List ℕ)) (at : Position) (direct : Bool) (timeout : ℕ) → position_at k 0 path ≡ Ok at → attach_tests k at ≡ None → PlacesAgree k → Placed k (attached_at direct timeout k at)
attach_at k path at direct timeout is may h = record {
  places = attached_places k h at (position_inside k h.whole 0 path at is) (test_passed (is_on_autofs k at.mount) _ (or_else (attach_refusal k) (new_fs_refusal k at.mount)) may).0 direct timeout;
  law = mounted_law k.table h.whole at (k.last_fs + 1) Private;
}

mount_there : (t : MountTable) (m : ℕ) → added.mount_refusal m t ≡ None → is_mount t m ≡ true
mount_there t m may = true_where_not_false (is_mount t m) (test_passed (not (is_mount t m)) _ _ may).0

mount_at : (k : KernelState) (at : Position) → mount_tests k at ≡ None → PlacesAgree k → Placed k (with_mount at k)
mount_at k at may h =
    let tests = test_passed (is_on_autofs k at.mount) _ (new_fs_refusal k at.mount) may in
    record {
      places = mounted_places k at (k.last_fs + 1) (k.last_fs + 1) Private h (mount_there k.table at.mount (others_passed (fs_refusal k) _ tests.1)) tests.0 (inl refl) (omega arith) (omega arith);
      law = mounted_law k.table h.whole at (k.last_fs + 1) Private;
    }

bind_to : (k : KernelState) (source at : Position) → bind_tests k source at ≡ None → PlacesAgree k → Placed k (bound_at k source at)
bind_to k source at may h =
    let sited = others_passed (source_refusal k source.mount) _ (others_passed (root_refusal source) _ may) in
    let tests = test_passed (is_on_autofs k at.mount) _ (added.bind_refusal source.mount at.mount k.table) sited in
    let first = test_passed (not (is_mount k.table source.mount)) _ _ tests.1 in
    let second = test_passed (added.is_unbindable (membership_of k.table source.mount)) _ _ first.1 in
    let third = test_passed (not (is_mount k.table at.mount)) _ _ second.1 in
    let row = some_of (mount_row k.table.rows source.mount) (true_where_not_false (is_mount k.table source.mount) first.0) in
    let fs : row.0.fs ≡ fs_in (mount_row k.table.rows source.mount) = sym (ap fs_in row.1) in
    record {
      places = mounted_places k at (fs_in (mount_row k.table.rows source.mount)) k.last_fs (membership_of k.table source.mount) h (true_where_not_false (is_mount k.table at.mount) third.0) tests.0
          (inr (source.mount, row.0, row.1, fs, refl)) (subst (λ (n : ℕ). n ≤ k.last_fs) fs (h.given_fs source.mount row.0 row.1)) (omega arith);
      law = mounted_law k.table h.whole at (fs_in (mount_row k.table.rows source.mount)) (membership_of k.table source.mount);
    }

-- ---- mounts go

later_false : (a b c : Bool) → (a || b || c) ≡ false → (b ≡ false) × (c ≡ false)
later_false true b c h = absurd cc
later_false false true c h = absurd cc
later_false false false c h = (refl, h)

pub value_unless_none : (o : Option Position) → is_none o ≡ false → (at : Position) × (o ≡ Some at)
value_unless_none None h = absurd cc
value_unless_none (Some at) h = (at, refl)

-- it is a mount on which nothing is mounted
umount_bare : (uses : ℕ → Bool) (m : ℕ) (t : MountTable) → umount_refusal uses m t ≡ None → is_bare t m ≡ true
umount_bare uses m t may =
    let first = test_passed (not (is_mount t m)) _ _ may in
    let second = test_passed (not (is_some (mountpoint_of t m))) _ _ first.1 in
    true_where_not_false (is_bare t m) (test_passed (not (is_bare t m)) _ _ second.1).0

umount_at : (k : KernelState) (at : Position) → umount_tests k at ≡ None → PlacesAgree k → Placed k (without_mounts (gone_at k (Ok at)) k)
umount_at k at may h =
    let m = at.mount in
    let sited = others_passed (root_refusal at) _ may in
    let bare = umount_bare (is_used k.uses) m k.table (others_passed (site_refusal k m) _ sited) in
    let tests = test_passed (is_none (mountpoint_of k.table m)) _ _ (first_passed (site_refusal k m) _ sited) in
    let mounted = value_unless_none (mountpoint_of k.table m) tests.0 in
    let daemons = later_false (is_on_autofs k m) (is_parent_on_autofs k (mountpoint_of k.table m)) (is_any_on_autofs k (unmounted k.table m)) (test_passed (is_daemons k m) _ None tests.1).0 in
    record {
      places = plain_places k h m mounted.0 mounted.1 bare (ap (is_parent_on_autofs k) (sym mounted.1) ∙ daemons.0) daemons.1;
      law = removed_law k.table h.whole (gone_at k (Ok at));
    }

pub not_namespace_0 : (ns : ℕ) → (ns == 0) ≡ false → ns ≢ 0
not_namespace_0 ns h same = let no : true ≡ false = sym (eq-eqb ns 0 same) ∙ h in cc

-- ---- a mount on a trigger

-- a current attachment is one of an autofs
live_autofs : (o : Option Autofs) → is_live_row o ≡ true → (b : Autofs) × (o ≡ Some b)
live_autofs None h = absurd cc
live_autofs (Some b) h = (b, refl)

current_in : (k : KernelState) (fs attach : ℕ) (rows : List Attached) → list_any (λ row. row.fs == fs && is_attached_by k attach row) rows ≡ true → (b : Autofs) × (autofs_of k.triggers fs ≡ Some b)
current_in k fs attach [] h = absurd cc
current_in k fs attach (row ∷ rows) h = ⊎_elim
    (λ here.
    let both = and_parts (row.fs == fs) (is_attached_by k attach row) here in
    let live = (and_parts (row.attach == attach) (is_live k row.fs) both.1).1 in
    live_autofs (autofs_of k.triggers fs) (subst (λ (n : ℕ). is_live k n ≡ true) (eqb-true row.fs fs both.0) live))
    (λ later. current_in k fs attach rows later)
    (or_cases (row.fs == fs && is_attached_by k attach row) (list_any (λ r. r.fs == fs && is_attached_by k attach r) rows) h)

current_autofs : (k : KernelState) (fs attach : ℕ) → not (is_current k fs attach) ≡ false → (b : Autofs) × (autofs_of k.triggers fs ≡ Some b)
current_autofs k fs attach h = current_in k fs attach k.attached (true_where_not_false (is_current k fs attach) h)

mount_on : (k : KernelState) (attach : ℕ) (trigger : Trigger) → mount_on_refusal k attach trigger ≡ None → PlacesAgree k → Placed k (with_mount_on trigger k)
mount_on k attach trigger may h =
    let first = test_passed (not (is_current k trigger.fs attach)) _ _ may in
    let second = test_passed (not (is_there k trigger)) _ _ first.1 in
    let third = test_passed (is_some (mounted_on k trigger)) _ (new_fs_refusal k (location_of k trigger.fs)) second.1 in
    let autofs = current_autofs k trigger.fs attach first.0 in
    let location = location_of k trigger.fs in
    let free : HasNoMountAt k.table.rows location (place_of trigger) = subst (λ (o : Option ℕ). IfNone o (HasNoMountAt k.table.rows location (place_of trigger))) (none_where_not_some (mounted_on k trigger) third.0) (none_free k.table.rows location (place_of trigger) (mounted_on k trigger) (top_is k.table.rows h.whole.rising location (place_of trigger))) in
    record {
      places = mounted_here k (trigger_position k trigger) (k.last_fs + 1) (k.last_fs + 1) Private h trigger.fs autofs.0 autofs.1 (ap location_in autofs.1) free (inl refl) (omega arith) (omega arith);
      law = mounted_law k.table h.whole (trigger_position k trigger) (k.last_fs + 1) Private;
    }

-- ---- an unmount from a trigger

umount_from : (k : KernelState) (trigger : Trigger) (m : ℕ) → mounted_on k trigger ≡ Some m → (b : Autofs) → autofs_of k.triggers trigger.fs ≡ Some b → umount_refusal (is_used k.uses) m k.table ≡ None → PlacesAgree k → Placed k (without_mounts (gone_with k (Some m)) k)
umount_from k trigger m is b is_b may h =
    let location = location_of k trigger.fs in
    let top : IsTop k.table.rows location (place_of trigger) m = subst (λ (o : Option ℕ). IfSome o (IsTop k.table.rows location (place_of trigger))) is (some_greatest k.table.rows location (place_of trigger) (mounted_on k trigger) (top_is k.table.rows h.whole.rising location (place_of trigger))) in
    let at : mountpoint_of k.table m ≡ Some (trigger_position k trigger) = ap mountpoint_in top.is_there.1 ∙ top.is_there.2 in
    record {
      places = daemons_places k h m (trigger_position k trigger) at (umount_bare (is_used k.uses) m k.table may) trigger.fs b is_b (ap location_in is_b);
      law = removed_law k.table h.whole (gone_with k (Some m));
    }

unmounts_from : (s : State) (row : JobPlan) (trigger : Trigger) (m : ℕ) → IsUnmounted s row trigger m → PlacesAgree s.kernel → Placed s.kernel (without_mounts (gone_with s.kernel (Some m)) s.kernel)
unmounts_from s row trigger m u h =
    let autofs = current_in s.kernel trigger.fs row.attach s.kernel.attached u.current in
    umount_from s.kernel trigger m u.mounted autofs.0 autofs.1 u.tests h

-- ---- events

places : tours.Keeps AnyPath AnyJob KeepsBy StaysPlaced
places = record {
  same = λ s. quietly s _ s (keeps_all s.kernel);
  attached = λ s path point at is fresh may. record { holds = attach_at s.kernel path at point.direct (line_timeout s.daemon point.entry) is may };
  mounted = λ s ns path at is may. record { holds = mount_at s.kernel at may };
  bound = λ s source at may. record { holds = bind_to s.kernel source at may };
  unmounted = λ s at may. record { holds = umount_at s.kernel at may };
  changed = λ s change at may. record { holds = λ h. record { places = changed_places s.kernel h change at.mount; law = (changed_keeps change at.mount s.kernel.table.groups h.whole.sound).law } };
  copied = λ s ns form may. record { holds = λ h. record { places = copied_places s.kernel h ns form; law = with_copy_law s.kernel.table h.whole ns form } };
  dropped = λ s ns may. record { holds = λ h. record { places = dropped_places s.kernel h ns (not_namespace_0 ns (test_passed (ns == 0) _ _ may).0); law = removed_law s.kernel.table h.whole (mounts_in s.kernel.table ns) } };
  walks = walks;
  walked = λ s shown k moment keeps. record { holds = placed_kept s.kernel (with_latest moment k) (keeps_latest s.kernel k moment keeps) };
  left = λ s walker mount is. quietly s _ _ (record { table = refl; last_fs = refl; sites = λ fs. refl });
  made_catatonic = λ s fs. quietly s _ _ (closes s.kernel fs);
  timed = λ s fs timeout. quietly s _ _ (record { table = refl; last_fs = refl; sites = λ fs. refl });
  died = λ s. quietly s _ _ (keeps_all s.kernel);
  reattached = λ s fs row is dead. quietly s _ _ (record { table = refl; last_fs = refl; sites = marked_sites fs false s.kernel.triggers });
  delivered = λ s token row taken. quietly s _ _ (record { table = refl; last_fs = refl; sites = λ fs. refl });
  rested = λ s row a outcome i r. quietly s _ _ (keeps_all s.kernel);
  directory_made = λ s row trigger i. quietly s _ _ (record { table = refl; last_fs = refl; sites = λ fs. refl });
  directory_gone = λ s row trigger i. quietly s _ _ (record { table = refl; last_fs = refl; sites = λ fs. refl });
  mounted_on = λ s row trigger entry i may. record { holds = mount_on s.kernel row.attach trigger may };
  unmounted_on = λ s row trigger mount i u. record { holds = unmounts_from s row trigger mount u };
  recorded = λ s row trigger entry i held. quietly s _ _ (keeps_all s.kernel);
  replied = λ s row status its i is. quietly s _ _ (record { table = refl; last_fs = refl; sites = λ fs. refl });
}

outcome_placed : (s : State) (event : Event) → PlacesAgree s.kernel → Placed s.kernel (after s (outcome_of s event)).kernel
outcome_placed s event h = (tours.outcome AnyPath AnyJob KeepsBy StaysPlaced places s event (any_event s event)).well.holds h

-- an outcome leaves the agreement on places
pub outcome_places : (s : State) (event : Event) → PlacesAgree s.kernel → PlacesAgree (after s (outcome_of s event)).kernel
outcome_places s event h = (outcome_placed s event h).places

-- no mount receives more
pub outcome_receivers : (s : State) (event : Event) → PlacesAgree s.kernel → AddsNoReceivers s.kernel.table.groups (after s (outcome_of s event)).kernel.table.groups
outcome_receivers s event h = (outcome_placed s event h).law
