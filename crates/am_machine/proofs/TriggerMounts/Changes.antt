-- Each change leaves right what the daemon knows of the mounts, and so does each event.
use Rattle.std.proofs.Common.{◌≡◌, ℕ, ◌+◌, ◌||◌, ◌==◌, Bool, true, false, not, List, [], ◌∷◌, map, Option, Some, None, refl, sym, ap, subst, ◌∙◌, inl, inr, arith}
use Rattle.std.specs.Prelude.{is_some, is_none, Ok}
use Rattle.am_names.specs.{same_trigger, Position}
use Rattle.am_names.specs.declared.trigger.Trigger.{Trigger}
use Rattle.am_names.proofs.Basics.{none_where_not_some, true_where_not_false}
use Rattle.am_map.specs.EntryText.{EntryText}
use Rattle.am_state.specs.{QueuedRow, Obs}
use Rattle.am_state.specs.declared.obs.Obs.TheVariants as seen
use Rattle.am_names.specs.declared.membership.Membership.TheVariants.{Private}
use Rattle.am_mount.specs.{mount_row, HasNoMountAt}
use Rattle.am_propagate.specs.Added as added
use Rattle.am_propagate.specs.{fs_in, membership_of, is_mount, mountpoint_of, unmounted}
use Rattle.am_propagate.proofs.RemovalLemmas.{some_of}
use Rattle.am_trigger.specs.{place_of}
use Rattle.am_kernel.specs.{KernelState, with_latest, attach_of, is_current, is_on_autofs, position_at, or_else, root_refusal, fs_refusal, attach_refusal, mount_tests, source_refusal, bind_tests, bound_at, is_parent_on_autofs, is_any_on_autofs, is_daemons, site_refusal, umount_tests, gone_at, coming, new_fs_refusal, with_mount, attach_tests, attached_at, is_there, location_of, mounted_on, mount_on_refusal, with_mount_on, gone_with, without_mounts, with_pipe, without_packet}
use Rattle.am_job.specs.{Act}
use Rattle.am_job.specs.declared.act.Act.TheVariants as act
use Rattle.am_job.specs.declared.act.Outcome as job
use Rattle.am_job.specs.declared.act.Outcome.TheVariants as came
use Rattle.am_daemon.specs.{JobPlan, line_timeout, with_attachment, taken_up, writes, finished}
use Rattle.am_machine.specs.{Event, Setup, initial_state_of, outcome_of, after, NumbersAreAllocated, TokensAgree, ArePlanned, AreDifferent, PlacesAgree, BookAgrees, TriggerMountsAgree, OnTriggers}
use Rattle.am_machine.specs.State.{State}
use Rattle.am_machine.specs.Events.Deliveries as deliveries
use Rattle.am_machine.proofs.Tests.{test_passed, first_passed, others_passed}
use Rattle.am_machine.proofs.Attachments.Current.{attach_from_current}
use Rattle.am_machine.proofs.Places.Paths.{position_inside}
use Rattle.am_machine.proofs.Books.Unchanged.{Narrows, same_attachments, narrows_itself, narrows_latest, timeout_narrows, closed_narrows}
use Rattle.am_machine.proofs.Books.Deliver.{may_take}
use Rattle.am_machine.proofs.TriggerMounts.Unchanged.{Knows, Still, kept_still, attached_autofs, stands_still, on_still}
use Rattle.am_machine.proofs.TriggerMounts.Tops.{none_there}
use Rattle.am_machine.proofs.TriggerMounts.Administrator.{mounted_still, copied_still, plain_still, dropped_still}
use Rattle.am_machine.proofs.TriggerMounts.Jobs.{MovesNothing, mounts, unmounts, claims_record}
use Rattle.am_machine.proofs.TriggerMounts.Acts.{goes_plainly, goes_moved, goes_written}
use Rattle.am_machine.proofs.TriggerMounts.Mounts.{mounted_others, mounted_here, mounted_on_triggers}
use Rattle.am_machine.proofs.TriggerMounts.Umounts.{unmounted_others, unmounted_here, unmounted_on_triggers}
use Rattle.am_machine.proofs.TriggerMounts.Deliver.{taken_stands}
use Rattle.am_machine.proofs.TriggerMounts.Attach.{attached_stands, attached_on_triggers, dead_stands}
use Rattle.am_machine.proofs.TriggerMounts.Reattach.{pipe_still, reattached_stands}
use Rattle.am_machine.proofs.Books.Changes as books
use Rattle.am_machine.proofs.Places.Changes as places
use Rattle.am_machine.proofs.Tour.Walks.{AnyPath, Both, both}
use Rattle.am_machine.proofs.Tour.Events as tours
use Rattle.am_machine.proofs.Tour.Events.{with_half, going, attached, IsNext, IsTaken, IsUnmounted, any_event, AnyJob}
use Rattle.am_machine.proofs.Places.Unchanged.{SamePlaces, keeps_all, keeps_latest}

-- ---- what an event leaves

-- the other parts of the agreement
record Holds (s : State) : Type 0 where
  given : NumbersAreAllocated s.kernel s.daemon
  planned : ArePlanned s.daemon.jobs
  differ : AreDifferent (map (λ (r : JobPlan). r.token) s.daemon.jobs)
  places : PlacesAgree s.kernel
  book : BookAgrees s.kernel s.daemon
  on : OnTriggers s.kernel

record StaysKnown (s : State) (shown : List Obs) (t : State) : Type 0 where
  stands : Holds s → Knows s.kernel s.daemon → Knows t.kernel t.daemon
  sites : Holds s → OnTriggers t.kernel

-- the kernel's half changes: no file system is served that wasn't, and nothing is mounted on a trigger
still : (s : State) (shown : List Obs) (k : KernelState) → Narrows s.kernel k → (PlacesAgree s.kernel → Still s.kernel k) → StaysKnown s shown (with_half k s)
still s shown k n keeps = record { stands = λ w h. stands_still s.kernel k s.daemon n (keeps w.places) h; sites = λ w. on_still s.kernel k (keeps w.places) w.on }

-- neither mounts nor locations change
quietly : (s : State) (shown : List Obs) (k : KernelState) → Narrows s.kernel k → SamePlaces s.kernel k → StaysKnown s shown (with_half k s)
quietly s shown k n keeps = still s shown k n (λ p. kept_still s.kernel k keeps)

-- ---- mounts come

attaches : (s : State) (path : List (List ℕ)) (direct : Bool) (timeout : ℕ) (at : Position) → position_at s.kernel 0 path ≡ Ok at → attach_tests s.kernel at ≡ None →
    StaysKnown s (seen.Mounted (coming s.kernel at.mount) ∷ []) (record s { kernel = attached_at direct timeout s.kernel at; daemon = with_attachment (s.kernel.last_fs + 1) (s.kernel.last_attach + 1) path s.daemon })
attaches s path direct timeout at is may =
    let k = s.kernel in
    let off = (test_passed (is_on_autofs k at.mount) _ (or_else (attach_refusal k) (new_fs_refusal k at.mount)) may).0 in
    record {
      stands = λ w h. attached_stands k w.places direct timeout at (ap is_some (position_inside k w.places.whole 0 path at is).1) off s.daemon path w.given h;
      sites = λ w. attached_on_triggers k w.places direct timeout at (ap is_some (position_inside k w.places.whole 0 path at is).1) off w.on;
    }

pub mount_at : (k : KernelState) (at : Position) → mount_tests k at ≡ None → PlacesAgree k → Still k (with_mount at k)
mount_at k at may p =
    let tests = test_passed (is_on_autofs k at.mount) _ (new_fs_refusal k at.mount) may in
    let there = true_where_not_false (is_mount k.table at.mount) (test_passed (not (is_mount k.table at.mount)) _ _ (others_passed (fs_refusal k) _ tests.1)).0 in
    mounted_still k at (k.last_fs + 1) (k.last_fs + 1) Private p there tests.0 (inl refl)

pub bind_to : (k : KernelState) (source at : Position) → bind_tests k source at ≡ None → PlacesAgree k → Still k (bound_at k source at)
bind_to k source at may p =
    let sited = others_passed (source_refusal k source.mount) _ (others_passed (root_refusal source) _ may) in
    let tests = test_passed (is_on_autofs k at.mount) _ (added.bind_refusal source.mount at.mount k.table) sited in
    let first = test_passed (not (is_mount k.table source.mount)) _ _ tests.1 in
    let second = test_passed (added.is_unbindable (membership_of k.table source.mount)) _ _ first.1 in
    let third = test_passed (not (is_mount k.table at.mount)) _ _ second.1 in
    let row = some_of (mount_row k.table.rows source.mount) (true_where_not_false (is_mount k.table source.mount) first.0) in
    let fs : row.0.fs ≡ fs_in (mount_row k.table.rows source.mount) = sym (ap fs_in row.1) in
    mounted_still k at (fs_in (mount_row k.table.rows source.mount)) k.last_fs (membership_of k.table source.mount) p (true_where_not_false (is_mount k.table at.mount) third.0) tests.0
    (inr (source.mount, row.0, row.1, fs, refl))

-- ---- mounts go

later_false : (a b c : Bool) → (a || b || c) ≡ false → b ≡ false
later_false true b c h = absurd cc
later_false false true c h = absurd cc
later_false false false c h = refl

pub umount_at : (k : KernelState) (at : Position) → umount_tests k at ≡ None → PlacesAgree k → Still k (without_mounts (gone_at k (Ok at)) k)
umount_at k at may p =
    let m = at.mount in
    let sited = others_passed (root_refusal at) _ may in
    let tests = test_passed (is_none (mountpoint_of k.table m)) _ _ (first_passed (site_refusal k m) _ sited) in
    let mounted = places.value_unless_none (mountpoint_of k.table m) tests.0 in
    let off = later_false (is_on_autofs k m) (is_parent_on_autofs k (mountpoint_of k.table m)) (is_any_on_autofs k (unmounted k.table m)) (test_passed (is_daemons k m) _ None tests.1).0 in
    plain_still k p m mounted.0 mounted.1 (ap (is_parent_on_autofs k) (sym mounted.1) ∙ off)

-- ---- a job goes on

-- by an act that mounts and unmounts nothing, and writes nothing
plainly : (s : State) (shown : List Obs) (row : JobPlan) (outcome : job.Outcome) (k : KernelState) (a : Act) → IsNext AnyJob s row a → writes (Some a) ≡ None → MovesNothing (Some a) outcome → Narrows s.kernel k → SamePlaces s.kernel k → StaysKnown s shown (going row outcome k s)
plainly s shown row outcome k a i none moves n keeps = record {
  sites = λ w. on_still s.kernel k (kept_still s.kernel k keeps) w.on;
  stands = λ w h. goes_plainly s.kernel k s.daemon row outcome n (kept_still s.kernel k keeps) (books.its_job s row i.is w.planned w.differ) (ap writes i.next ∙ none) (subst (λ (o : Option Act). MovesNothing o outcome) (sym i.next) moves) w.book h;
}

mounts_on : (s : State) (row : JobPlan) (trigger : Trigger) (entry : EntryText) → IsNext AnyJob s row (act.Mount trigger entry) → mount_on_refusal s.kernel row.attach trigger ≡ None →
    StaysKnown s (seen.Mounted (coming s.kernel (location_of s.kernel trigger.fs)) ∷ []) (going row (came.Made (s.kernel.table.last_mount + 1)) (with_mount_on trigger s.kernel) s)
mounts_on s row trigger entry i may = record {
  sites = λ w.
      let k = s.kernel in
      let first = test_passed (not (is_current k trigger.fs row.attach)) _ _ may in
      let second = test_passed (not (is_there k trigger)) _ _ first.1 in
      let b = attached_autofs k trigger.fs row.attach (attach_from_current k trigger.fs row.attach w.given.rise (true_where_not_false (is_current k trigger.fs row.attach) first.0)) in
      mounted_on_triggers k w.places trigger b.0 b.1 (true_where_not_false (is_there k trigger) second.0) w.on;
  stands = λ w h.
      let k = s.kernel in
      let j = books.its_job s row i.is w.planned w.differ in
      let made = with_mount_on trigger k in
      let first = test_passed (not (is_current k trigger.fs row.attach)) _ _ may in
      let second = test_passed (not (is_there k trigger)) _ _ first.1 in
      let third = test_passed (is_some (mounted_on k trigger)) _ (new_fs_refusal k (location_of k trigger.fs)) second.1 in
      let free : HasNoMountAt k.table.rows (location_of k trigger.fs) (place_of trigger) = none_there k.table.rows (location_of k trigger.fs) (place_of trigger) w.places.whole.rising (none_where_not_some (mounted_on k trigger) third.0) in
      let current : attach_of k trigger.fs ≡ Some row.attach = attach_from_current k trigger.fs row.attach w.given.rise (true_where_not_false (is_current k trigger.fs row.attach) first.0) in
      let b = attached_autofs k trigger.fs row.attach current in
      let p = mounts row.trigger trigger entry (k.table.last_mount + 1) row.plan i.next j.planned.rest j.planned.claims_right in
      goes_moved k made s.daemon row (came.Made (k.table.last_mount + 1)) j (ap writes i.next) (record {
        narrows = same_attachments k made (λ fs. refl) (omega arith);
        others = λ g a is other. mounted_others k w.places trigger b.0 b.1 g a is (subst (λ (t : Trigger). same_trigger t g ≡ false) (sym p.on) other);
        here = ap (mounted_on made) (sym p.on) ∙ mounted_here k w.places trigger b.0 b.1 free ∙ sym p.claimed;
        current = subst (λ (t : Trigger). attach_of k t.fs ≡ Some row.attach) p.on current;
        left = p.left;
      }) w.book h;
}

unmounts_from : (s : State) (row : JobPlan) (trigger : Trigger) (m : ℕ) → IsNext AnyJob s row (act.Umount trigger) → IsUnmounted s row trigger m → Holds s → Knows s.kernel s.daemon →
    Knows (without_mounts (gone_with s.kernel (Some m)) s.kernel) (finished row.token came.Done s.daemon)
unmounts_from s row trigger m i u w h =
    let k = s.kernel in
    let j = books.its_job s row i.is w.planned w.differ in
    let made = without_mounts (gone_with k (Some m)) k in
    let current : attach_of k trigger.fs ≡ Some row.attach = attach_from_current k trigger.fs row.attach w.given.rise u.current in
    let b = attached_autofs k trigger.fs row.attach current in
    let p = unmounts row.trigger trigger row.plan i.next j.planned.rest j.planned.claims_right in
    goes_moved k made s.daemon row came.Done j (ap writes i.next) (record {
      narrows = same_attachments k made (λ fs. refl) (omega arith);
      others = λ g a is_a other. unmounted_others k w.places trigger b.0 b.1 m u.mounted g a is_a (subst (λ (t : Trigger). same_trigger t g ≡ false) (sym p.on) other);
      here = ap (mounted_on made) (sym p.on) ∙ unmounted_here k w.places trigger b.0 b.1 m u.mounted ∙ sym p.claimed;
      current = subst (λ (t : Trigger). attach_of k t.fs ≡ Some row.attach) p.on current;
      left = p.left;
    }) w.book h

unmounts_sites : (s : State) (row : JobPlan) (trigger : Trigger) (m : ℕ) → IsUnmounted s row trigger m → Holds s → OnTriggers (without_mounts (gone_with s.kernel (Some m)) s.kernel)
unmounts_sites s row trigger m u w =
    let b = attached_autofs s.kernel trigger.fs row.attach (attach_from_current s.kernel trigger.fs row.attach w.given.rise u.current) in
    unmounted_on_triggers s.kernel w.places trigger b.0 b.1 m u.mounted w.on

takes : (s : State) (token : ℕ) (row : QueuedRow) → IsTaken s token row → StaysKnown s (deliveries.takes s row).seen (deliveries.takes s row).state
takes s token row taken =
    let made = without_packet row.token s.kernel in
    let still = kept_still s.kernel made (record { table = refl; last_fs = refl; sites = λ fs. refl }) in
    record {
      sites = λ w. on_still s.kernel made still w.on;
      stands = λ w h. stands_still s.kernel made (taken_up row.attach row.packet s.daemon) (same_attachments s.kernel made (λ fs. refl) (omega arith)) still
          (taken_stands s.kernel s.daemon row.attach row.packet (may_take s.daemon row.attach row.packet taken.held taken.free) h);
    }

-- ---- events

stand : tours.Keeps AnyPath AnyJob (Both books.NarrowsBy places.KeepsBy) StaysKnown
stand = record {
  same = λ s. record { stands = λ w h. h; sites = λ w. w.on };
  attached = λ s path point at is fresh may. attaches s path point.direct (line_timeout s.daemon point.entry) at is may;
  mounted = λ s ns path at is may. still s _ _ (same_attachments s.kernel _ (λ fs. refl) (omega arith)) (mount_at s.kernel at may);
  bound = λ s source at may. still s _ _ (same_attachments s.kernel _ (λ fs. refl) (omega arith)) (bind_to s.kernel source at may);
  unmounted = λ s at may. still s _ _ (same_attachments s.kernel _ (λ fs. refl) (omega arith)) (umount_at s.kernel at may);
  changed = λ s change at may. still s _ _ (same_attachments s.kernel _ (λ fs. refl) (omega arith)) (λ p. record { still = λ g a is. refl; rows = λ fs a is m row place e on. e; sites = λ fs. refl });
  copied = λ s ns form may. still s _ _ (same_attachments s.kernel _ (λ fs. refl) (omega arith)) (λ p. copied_still s.kernel p ns form);
  dropped = λ s ns may. still s _ _ (same_attachments s.kernel _ (λ fs. refl) (omega arith)) (λ p. dropped_still s.kernel p ns (places.not_namespace_0 ns (test_passed (ns == 0) _ _ may).0));
  walks = both AnyPath books.NarrowsBy places.KeepsBy books.walks places.walks;
  walked = λ s shown k moment two. quietly s shown (with_latest moment k) (narrows_latest s.kernel k moment two.0) (keeps_latest s.kernel k moment two.1);
  left = λ s walker mount is. quietly s _ _ (same_attachments s.kernel _ (λ fs. refl) (omega arith)) (record { table = refl; last_fs = refl; sites = λ fs. refl });
  made_catatonic = λ s fs. quietly s _ _ (closed_narrows s.kernel fs) (places.closes s.kernel fs);
  timed = λ s fs timeout. quietly s _ _ (timeout_narrows s.kernel fs timeout) (record { table = refl; last_fs = refl; sites = λ g. refl });
  died = λ s. record { stands = λ w h. dead_stands s.kernel s.daemon h; sites = λ w. w.on };
  reattached = λ s fs row is dead. record { stands = λ w h. reattached_stands s.kernel s.daemon fs row is w.given w.places w.on h; sites = λ w. on_still s.kernel (with_pipe fs s.kernel) (pipe_still s.kernel fs) w.on };
  delivered = takes;
  rested = λ s row a outcome i r. plainly s _ row outcome s.kernel a i r.writes r.moves (narrows_itself s.kernel) (keeps_all s.kernel);
  directory_made = λ s row trigger i. plainly s _ row came.Done _ (act.Mkdir trigger) i refl tt (same_attachments s.kernel _ (λ fs. refl) (omega arith)) (record { table = refl; last_fs = refl; sites = λ fs. refl });
  directory_gone = λ s row trigger i. plainly s _ row came.Done _ (act.Rmdir trigger) i refl tt (same_attachments s.kernel _ (λ fs. refl) (omega arith)) (record { table = refl; last_fs = refl; sites = λ fs. refl });
  mounted_on = mounts_on;
  unmounted_on = λ s row trigger mount i u. record { stands = λ w h. unmounts_from s row trigger mount i u w h; sites = λ w. unmounts_sites s row trigger mount u w };
  recorded = λ s row trigger entry i held. record {
    sites = λ w. w.on;
    stands = λ w h. goes_written s.kernel s.daemon row came.Done trigger entry (books.its_job s row i.is w.planned w.differ) (record { next = i.next; holds = held }) (claims_record row.plan trigger entry i.next) w.book h;
  };
  replied = λ s row status its i is. plainly s _ row came.Done _ (act.Reply status) i refl refl (same_attachments s.kernel _ (λ fs. refl) (omega arith)) (record { table = refl; last_fs = refl; sites = λ fs. refl });
}

-- an outcome leaves right what stands on the triggers
pub outcome_stands : (s : State) (event : Event) → NumbersAreAllocated s.kernel s.daemon → TokensAgree s.kernel s.daemon.jobs → ArePlanned s.daemon.jobs → PlacesAgree s.kernel → BookAgrees s.kernel s.daemon → TriggerMountsAgree s.kernel s.daemon →
    TriggerMountsAgree (after s (outcome_of s event)).kernel (after s (outcome_of s event)).daemon
outcome_stands s event given tokens planned placed book h =
    let keeps = (tours.outcome AnyPath AnyJob (Both books.NarrowsBy places.KeepsBy) StaysKnown stand s event (any_event s event)).well in
    let others : Holds s = record { given = given; planned = planned; differ = tokens.numbers; places = placed; book = book; on = h.on_triggers } in
    let before : Knows s.kernel s.daemon = record { at_work = h.at_work; settled = h.settled } in
    let now = keeps.stands others before in
    record { at_work = now.at_work; settled = now.settled; on_triggers = keeps.sites others }

-- in the initial world nothing is served, and there is no job and no autofs
pub initial_stands : (opening : Setup) → TriggerMountsAgree (initial_state_of opening).kernel (initial_state_of opening).daemon
initial_stands opening = record {
  at_work = λ fs attach s job row found same under left. let held : None ≡ Some attach = s.held in absurd cc;
  settled = λ fs attach s g same written. let held : None ≡ Some attach = s.held in absurd cc;
  on_triggers = record { on = λ fs a is m row place e at. absurd cc };
}
