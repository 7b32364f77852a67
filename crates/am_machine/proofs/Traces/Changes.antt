-- What is seen of each change is lawful after a trace that fits the rows, and so is what is seen of each
-- event.
use Rattle.std.proofs.Common.{◌≡◌, ℕ, ◌≤◌, Bool, true, false, List, [], ◌∷◌, Option, Some, None, refl, sym, ap, subst, arith, ◌+◌, ◌++◌}
use Rattle.std.specs.Prelude.{Ok, if◌then◌else◌, ◌==◌, not, is_some}
use Rattle.std.specs.List.{count_by, list_any}
use Rattle.am_names.specs.declared.errno.Errno.{Errno}
use Rattle.am_names.specs.declared.limits.Limits.{Limits}
use Rattle.am_names.specs.{Position, Status, OpenToken}
use Rattle.am_state.specs.{Obs, QueuedRow, Record}
use Rattle.am_state.specs.declared.obs.Obs.TheVariants as seen
use Rattle.am_expire.specs.{is_used}
use Rattle.am_kernel.specs.{KernelState, root_refusal, site_refusal, umount_tests, gone_at, without_mounts, answering, acknowledged, releases}
use Rattle.am_daemon.specs.{JobPlan, plan_of_packet, job_of, job_for, finished_in}
use Rattle.am_laws.specs.{is_queued}
use Rattle.am_machine.specs.State.{State}
use Rattle.am_machine.specs.{Setup, limits_in, setup_of, Rows, rows_of, rows_in, FitsTrace, Event, outcome_of}
use Rattle.am_machine.proofs.Traces.Unchanged.{quiet_fits}
use Rattle.am_machine.proofs.Traces.Lawful.{unmount_lawful, delivery_lawful, answer_lawful}
use Rattle.am_machine.proofs.Traces.Adds.{Adds, IsPlain, adds_plain, at_most_one, adds_both, once_answered}
use Rattle.am_names.specs.declared.errno.Errno.TheVariants.{EINVAL, EBUSY, ENOENT}
use Rattle.am_names.specs.declared.trigger.Trigger.{Trigger}
use Rattle.am_propagate.specs.MountTable.{MountTable}
use Rattle.am_propagate.specs.{is_mount, mountpoint_of, is_bare, unmounted, umount_refusal, is_namespace, drop_refusal, mounts_in}
use Rattle.am_wait.specs.{token_of, waiters_in, waiters_of, answered}
use Rattle.am_machine.proofs.Traces.Enter.{leave_fits}
use Rattle.am_job.specs.declared.act.Outcome as job
use Rattle.am_job.specs.declared.act.Outcome.TheVariants as came
use Rattle.am_job.specs.{is_reply}
use Rattle.am_machine.specs.Events.Deliveries as deliveries
use Rattle.am_machine.proofs.Traces.Deliver.{found_fits, deliver_fits, finish_fits}
use Rattle.am_machine.proofs.Traces.Answer.{answer, answer_fits}
use Rattle.am_machine.proofs.Tests.{others_passed}
use Rattle.am_machine.proofs.Traces.Walks.{Moves, moves, closes}
use Rattle.am_machine.proofs.Tour.Walks.{AnyPath}
use Rattle.am_machine.proofs.Tour.Events as tours
use Rattle.am_machine.proofs.Tour.Events.{with_half, going, IsNext, IsTaken, IsUnmounted, any_event, AnyJob}

-- what is seen of it may be seen next; one packet at most is queued, and the opening stays
pub record Follows (s : State) (shown : List Obs) (t : State) : Type 0 where
  pub adds : FitsTrace (rows_in s) s.trace → Adds s.trace shown (rows_in t)
  pub once : count_by is_queued shown ≤ 1
  pub opening : setup_of t ≡ setup_of s

-- ---- what is plain

nothing_plain : IsPlain []
nothing_plain = record { quiet = refl; still = record { enters = λ m. refl; leaves = λ m. refl }; lawful = λ trace. tt; start = refl; none = refl }

mounted_plain : (mounts : List ℕ) → IsPlain (seen.Mounted mounts ∷ [])
mounted_plain mounts = record { quiet = refl; still = record { enters = λ m. refl; leaves = λ m. refl }; lawful = λ trace. (tt, tt); start = refl; none = refl }

died_plain : IsPlain (seen.Died ∷ [])
died_plain = record { quiet = refl; still = record { enters = λ m. refl; leaves = λ m. refl }; lawful = λ trace. (tt, tt); start = refl; none = refl }

reattached_plain : (fs attach : ℕ) → IsPlain (seen.Reattached fs attach ∷ [])
reattached_plain fs attach = record { quiet = refl; still = record { enters = λ m. refl; leaves = λ m. refl }; lawful = λ trace. (tt, tt); start = refl; none = refl }

recorded_plain : (trigger : Trigger) (entry : Option Record) → IsPlain (seen.Recorded trigger entry ∷ [])
recorded_plain trigger entry = record { quiet = refl; still = record { enters = λ m. refl; leaves = λ m. refl }; lawful = λ trace. (tt, tt); start = refl; none = refl }

if_plain : (b : Bool) (trigger : Trigger) (entry : Option Record) → IsPlain (if b then [] else seen.Recorded trigger entry ∷ [])
if_plain true trigger entry = nothing_plain
if_plain false trigger entry = recorded_plain trigger entry

-- ---- what speaks of no token leaves the rows

plainly : (s : State) (shown : List Obs) (t : State) → IsPlain shown → rows_in t ≡ rows_in s → setup_of t ≡ setup_of s → Follows s shown t
plainly s shown t p rows opening = record {
  adds = λ h. subst (λ (r : Rows). Adds s.trace shown r) (sym rows) (adds_plain s.trace shown (rows_in s) p h);
  once = at_most_one shown 0 p.none (omega arith);
  opening = opening;
}

abbrev opening_with : State → Limits → Setup
opening_with s limits = record { limits = limits; master = s.daemon.master; maps = s.daemon.maps }

-- ---- mounts go that nobody is inside of

unmounts_add : (trace : List Obs) (r : Rows) (gone : List ℕ) → list_any (is_used r.uses) gone ≡ false → FitsTrace r trace → Adds trace (seen.Unmounted gone ∷ []) r
unmounts_add trace r gone free h = record {
  fits = quiet_fits r trace (seen.Unmounted gone ∷ []) refl (record { enters = λ m. refl; leaves = λ m. refl }) h;
  lawful = unmount_lawful r.uses trace gone h.inside free;
  start = refl;
}

unmounts : (s t : State) (gone : List ℕ) → list_any (is_used s.kernel.uses) gone ≡ false → rows_in t ≡ rows_in s → setup_of t ≡ setup_of s → Follows s (seen.Unmounted gone ∷ []) t
unmounts s t gone free rows opening = record {
  adds = λ fits. subst (λ (r : Rows). Adds s.trace (seen.Unmounted gone ∷ []) r) (sym rows) (unmounts_add s.trace (rows_in s) gone free fits);
  once = at_most_one (seen.Unmounted gone ∷ []) 0 refl (omega arith);
  opening = opening;
}

last_none : (b : Bool) (e : Errno) → (if b then Some e else None) ≡ None → b ≡ false
last_none true e h = absurd cc
last_none false e h = refl

then_none : (b : Bool) (e : Errno) (rest : Option Errno) → (if b then Some e else rest) ≡ None → rest ≡ None
then_none true e rest h = absurd cc
then_none false e rest h = h

pub umount_free : (uses : ℕ → Bool) (m : ℕ) (t : MountTable) → umount_refusal uses m t ≡ None → list_any uses (unmounted t m) ≡ false
umount_free uses m t h =
    last_none (list_any uses (unmounted t m)) EBUSY
    (then_none (not (is_bare t m)) EBUSY _ (then_none (not (is_some (mountpoint_of t m))) EBUSY _ (then_none (not (is_mount t m)) EINVAL _ h)))

pub plain_free : (k : KernelState) (at : Position) → umount_tests k at ≡ None → list_any (is_used k.uses) (gone_at k (Ok at)) ≡ false
plain_free k at h = umount_free (is_used k.uses) at.mount k.table (others_passed (site_refusal k at.mount) _ (others_passed (root_refusal at) _ h))

pub drop_free : (uses : ℕ → Bool) (ns : ℕ) (t : MountTable) → drop_refusal uses ns t ≡ None → list_any uses (mounts_in t ns) ≡ false
drop_free uses ns t h =
    last_none (list_any uses (mounts_in t ns)) EBUSY (then_none (not (is_namespace t ns)) ENOENT _ (then_none (ns == 0) EINVAL _ h))

-- ---- the daemon takes a packet, and its jobs go on

takes : (s : State) (token : ℕ) (row : QueuedRow) → IsTaken s token row → Follows s (deliveries.takes s row).seen (deliveries.takes s row).state
takes s token row taken =
    let o = deliveries.takes s row in
    let first = seen.Delivered row.token row.attach row.packet ∷ [] in
    let plain : IsPlain (deliveries.recording s.daemon row) = if_plain (is_reply (plan_of_packet s.daemon row.packet)) _ _ in
    record {
      adds = λ h.
          let packet = found_fits s.trace s.kernel.queue token row h.queued taken.queued in
          let fits = deliver_fits (rows_in s) s.trace row (job_for row.attach row.packet s.daemon) packet.numbered packet h in
          adds_both s.trace first (deliveries.recording s.daemon row) (rows_in o.state) (rows_in o.state)
          (record { fits = fits; lawful = delivery_lawful s.trace row packet; start = refl })
          (adds_plain (s.trace ++ first) (deliveries.recording s.daemon row) (rows_in o.state) plain fits);
      once = at_most_one o.seen 0 plain.none (omega arith);
      opening = refl;
    }

goes_plainly : (s : State) (shown : List Obs) (row : JobPlan) (outcome : job.Outcome) (k : KernelState) → IsPlain shown → ((jobs : List JobPlan) → rows_of k jobs ≡ rows_of s.kernel jobs) → limits_in k ≡ limits_in s.kernel → Follows s shown (going row outcome k s)
goes_plainly s shown row outcome k p rows limits = record {
  adds = λ fits.
      let left = finished_in row.token outcome s.daemon.jobs in
      adds_plain s.trace shown (rows_of k left) p (subst (λ (r : Rows). FitsTrace r s.trace) (sym (rows left)) (finish_fits (rows_in s) s.trace row.token outcome fits));
  once = at_most_one shown 0 p.none (omega arith);
  opening = ap (opening_with s) limits;
}

umounts_on : (s : State) (row : JobPlan) (gone : List ℕ) → list_any (is_used s.kernel.uses) gone ≡ false → Follows s (seen.Unmounted gone ∷ []) (going row came.Done (without_mounts gone s.kernel) s)
umounts_on s row gone free = record {
  adds = λ h.
      let left = finished_in row.token came.Done s.daemon.jobs in
      unmounts_add s.trace (rows_of s.kernel left) gone free (finish_fits (rows_in s) s.trace row.token came.Done h);
  once = at_most_one (seen.Unmounted gone ∷ []) 0 refl (omega arith);
  opening = refl;
}

replies : (s : State) (row : JobPlan) (status : Status) (its : OpenToken) → token_of s.kernel.waits.tokens row.token ≡ Some its → is_some (job_of s.daemon.jobs row.token) ≡ true →
    Follows s (answering row.token status s.kernel) (going row came.Done (acknowledged row.token status s.kernel) s)
replies s row status its is there =
    let t = going row came.Done (acknowledged row.token status s.kernel) s in
    let token = row.token in
    let shown : answering row.token status s.kernel ≡ answer token status its.waiters = ap (λ (found : Option OpenToken). seen.Answered token status ∷ releases token status (waiters_in found)) is in
    let closed : Rows = record (rows_in s) { waits = answered token status s.kernel.waits } in
    record {
      adds = λ h. subst (λ (more : List Obs). Adds s.trace more (rows_in t)) (sym shown) (record {
        fits = finish_fits closed (s.trace ++ answer token status its.waiters) token came.Done (answer_fits (rows_in s) s.trace token status its is h);
        lawful = answer_lawful s.kernel.waits.tokens s.daemon.jobs s.trace token status its h.opens h.waiters h.delivered is there;
        start = refl;
      });
      once = once_answered token status (waiters_of s.kernel.waits.tokens token);
      opening = refl;
    }

-- ---- events

lawful : tours.Keeps AnyPath AnyJob Moves Follows
lawful = record {
  same = λ s. plainly s _ s nothing_plain refl refl;
  attached = λ s path point at is fresh may. plainly s _ _ (mounted_plain _) refl refl;
  mounted = λ s ns path at is may. plainly s _ _ (mounted_plain _) refl refl;
  bound = λ s source at may. plainly s _ _ (mounted_plain _) refl refl;
  unmounted = λ s at may. unmounts s _ _ (plain_free s.kernel at may) refl refl;
  changed = λ s change at may. plainly s _ _ nothing_plain refl refl;
  copied = λ s ns form may. plainly s _ _ (mounted_plain _) refl refl;
  dropped = λ s ns may. unmounts s _ _ (drop_free (is_used s.kernel.uses) ns s.kernel.table may) refl refl;
  walks = moves;
  walked = λ s shown k moment m. record { adds = λ h. m.adds s.daemon.jobs s.trace h; once = m.once; opening = ap (opening_with s) m.limits };
  left = λ s walker mount is. record {
    adds = λ h. record { fits = leave_fits (rows_in s) s.trace walker mount is h; lawful = (tt, tt); start = refl };
    once = at_most_one (seen.Left walker mount ∷ []) 0 refl (omega arith);
    opening = refl;
  };
  made_catatonic = λ s fs. let m = closes s.kernel fs in record { adds = λ h. m.adds s.daemon.jobs s.trace h; once = m.once; opening = ap (opening_with s) m.limits };
  timed = λ s fs timeout. plainly s _ _ nothing_plain refl refl;
  died = λ s. plainly s _ _ died_plain refl refl;
  reattached = λ s fs row is dead. plainly s _ _ (reattached_plain fs (s.kernel.last_attach + 1)) refl refl;
  delivered = takes;
  rested = λ s row a outcome i r. goes_plainly s _ row outcome s.kernel nothing_plain (λ jobs. refl) refl;
  directory_made = λ s row trigger i. goes_plainly s _ row _ _ nothing_plain (λ jobs. refl) refl;
  directory_gone = λ s row trigger i. goes_plainly s _ row _ _ nothing_plain (λ jobs. refl) refl;
  mounted_on = λ s row trigger entry i may. goes_plainly s _ row _ _ (mounted_plain _) (λ jobs. refl) refl;
  unmounted_on = λ s row trigger mount i u. umounts_on s row _ (umount_free (is_used s.kernel.uses) mount s.kernel.table u.tests);
  recorded = λ s row trigger entry i held. goes_plainly s _ row _ _ (recorded_plain trigger entry) (λ jobs. refl) refl;
  replied = λ s row status its i is. replies s row status its is (ap is_some i.is);
}

pub outcome_follows : (s : State) (event : Event) → Follows s (outcome_of s event).seen (outcome_of s event).state
outcome_follows s event = (tours.outcome AnyPath AnyJob Moves Follows lawful s event (any_event s event)).well
