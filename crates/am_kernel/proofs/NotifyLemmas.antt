-- A walk has the daemon notified.
use Rattle.std.proofs.Common.{◌≡◌, ◌+◌, ℕ, Bool, true, false, cond, List, [], ◌∷◌, ◌++◌, Option, Some, None, Ok, Err, refl, sym, ap, subst, ◌∙◌}
use Rattle.am_names.specs.declared.errno.Errno.{Errno}
use Rattle.am_names.specs.declared.errno.Errno.TheVariants.{EINVAL, ENOSPC}
use Rattle.am_names.specs.declared.trigger.Trigger.{Trigger}
use Rattle.am_names.specs.{PipeState}
use Rattle.am_names.specs.declared.row.TokenKind.TheVariants.{Missing}
use Rattle.am_wire.specs.{Packet}
use Rattle.am_state.specs.{Obs}
use Rattle.am_state.specs.declared.obs.Obs.TheVariants as seen
use Rattle.am_wait.specs.{WaitRows, wait_of, is_exhausted, is_full, collected, still_waits, reopen_refusal}
use Rattle.am_kernel.specs.declared.waited.Waited.{Waited}
use Rattle.am_kernel.specs.declared.waited.Waited.TheVariants.{Idle, OnMount, OnExpiry}
use Rattle.am_kernel.specs.{Attempt, KernelState, attach_of, Fails, Yields, packet_for, with_notified, notified, notifies, notifies_by, passes, wait_collected_as, HasNoOpenWait}
use Rattle.am_kernel.specs.declared.progress.Progress.TheVariants.{Waits}
use Rattle.am_kernel.specs.CallOutcome.{CallOutcome}
use Rattle.am_kernel.proofs.FreeLemmas.{free_collected, free_waits, free_kernel, without_wait}

-- ---- a packet is queued

-- what is seen, with this token and packet
abbrev pub shown_with : Attempt → ℕ → List Trigger → ℕ → Packet → List Obs
shown_with attempt attach passed token packet =
    passes attempt.walker passed ++ seen.Queued token attach packet ∷ seen.Waits attempt.walker token ∷ []

abbrev pub packet_of : Attempt → Trigger → ℕ → Packet
packet_of attempt trigger token = packet_for Missing token attempt.walker trigger

pub notified_as : (waited : Waited) (k new : KernelState) (attempt : Attempt) (trigger : Trigger) (attach : ℕ) (passed : List Trigger) (token : ℕ) (before after : List Obs) → HasNoOpenWait waited attempt.walker k.waits → token ≡ k.waits.last_token + 1 →
    new ≡ with_notified attempt trigger attach passed (without_wait waited attempt.walker attempt.moment k) →
    after ≡ before ++ shown_with attempt attach passed (k.waits.last_token + 1) (packet_of attempt trigger (k.waits.last_token + 1)) →
    Yields (notified (wait_collected_as waited attempt.walker attempt.moment k) attempt trigger attach passed) (Ok (Waits token)) k new before after
notified_as waited k new attempt trigger attach passed token before after free next state shown =
    subst (λ (base : KernelState). Yields (notified base attempt trigger attach passed) (Ok (Waits token)) k new before after) (sym (free_kernel waited attempt.walker attempt.moment k free))
    (ap (λ (t : ℕ). Waits t) next, record { state = state; seen = shown })

-- ---- tokens and waits are left, or they aren't

-- the attachments stay
attach_freed : (waited : Waited) (walker moment fs : ℕ) (k : KernelState) → attach_of (wait_collected_as waited walker moment k) fs ≡ attach_of k fs
attach_freed Idle walker moment fs k = refl
attach_freed OnMount walker moment fs k = refl
attach_freed (OnExpiry trigger) walker moment fs k = refl

abbrev or_that : Errno → Option Errno → Errno
or_that e (Some f) = f
or_that e None = e

limit_refuses : (k : KernelState) (before : List Obs) (e : Errno) → Some ENOSPC ≡ Some e → Yields (Fails ENOSPC) (Err e) k k before before
limit_refuses k before e h = subst (λ (f : Errno). Yields (Fails ENOSPC) (Err f) k k before before) (ap (or_that e) h) (refl, record { state = refl; seen = refl })

pub limits_refuse : (exhausted full : Bool) (rest : CallOutcome) (k : KernelState) (before : List Obs) (e : Errno) → cond exhausted (Some ENOSPC) (cond full (Some ENOSPC) None) ≡ Some e →
    Yields (cond exhausted (Fails ENOSPC) (cond full (Fails ENOSPC) rest)) (Err e) k k before before
limits_refuse true full rest k before e h = limit_refuses k before e h
limits_refuse false true rest k before e h = limit_refuses k before e h
limits_refuse false false rest k before e h = absurd cc

pub limits_after_wait : (still exhausted full : Bool) (o : Option Errno) → still ≡ false → cond still (Some EINVAL) (cond exhausted (Some ENOSPC) (cond full (Some ENOSPC) None)) ≡ o → cond exhausted (Some ENOSPC) (cond full (Some ENOSPC) None) ≡ o
limits_after_wait true exhausted full o s h = absurd cc
limits_after_wait false exhausted full o s h = h

pub limits_are_left : (exhausted full : Bool) → cond exhausted (Some ENOSPC) (cond full (Some ENOSPC) None) ≡ None → (exhausted ≡ false) × (full ≡ false)
limits_are_left true full h = absurd cc
limits_are_left false true h = absurd cc
limits_are_left false false h = (refl, refl)

pub notify_refused : (waited : Waited) (k : KernelState) (attempt : Attempt) (trigger : Trigger) (attach : ℕ) (pipe : PipeState) (passed : List Trigger) (e : Errno) (before : List Obs) → HasNoOpenWait waited attempt.walker k.waits → attach_of k trigger.fs ≡ Some attach → reopen_refusal attempt.walker k.waits ≡ Some e →
    Yields (notifies (attach_of (wait_collected_as waited attempt.walker attempt.moment k) trigger.fs) pipe (wait_collected_as waited attempt.walker attempt.moment k) attempt trigger passed) (Err e) k k before before
notify_refused waited k attempt trigger attach pipe passed e before free attached why_not =
    let base : KernelState = wait_collected_as waited attempt.walker attempt.moment k in
    let w = k.waits in
    let why = limits_after_wait (still_waits (wait_of w.waits attempt.walker)) (is_exhausted w) (is_full (collected attempt.walker w)) (Some e) (free_waits waited attempt.walker w free) why_not in
    let here = limits_refuse (is_exhausted (collected attempt.walker w)) (is_full (collected attempt.walker w)) (notifies_by pipe base attempt trigger attach passed) k before e why in
    subst (λ (o : Option ℕ). Yields (notifies o pipe base attempt trigger passed) (Err e) k k before before) (sym (attach_freed waited attempt.walker attempt.moment trigger.fs k ∙ attached))
    (subst (λ (x : WaitRows). Yields (cond (is_exhausted x) (Fails ENOSPC) (cond (is_full x) (Fails ENOSPC) (notifies_by pipe base attempt trigger attach passed))) (Err e) k k before before) (sym (free_collected waited attempt.walker w free)) here)

by_pipe : (base : KernelState) (attempt : Attempt) (trigger : Trigger) (attach : ℕ) (pipe : PipeState) (passed : List Trigger) → is_exhausted base.waits ≡ false → is_full base.waits ≡ false → notifies (Some attach) pipe base attempt trigger passed ≡ notifies_by pipe base attempt trigger attach passed
by_pipe base attempt trigger attach pipe passed e f = rw (e, f) refl

pub notify_by : (waited : Waited) (k : KernelState) (attempt : Attempt) (trigger : Trigger) (attach : ℕ) (pipe : PipeState) (passed : List Trigger) → HasNoOpenWait waited attempt.walker k.waits → attach_of k trigger.fs ≡ Some attach → reopen_refusal attempt.walker k.waits ≡ None →
    notifies (attach_of (wait_collected_as waited attempt.walker attempt.moment k) trigger.fs) pipe (wait_collected_as waited attempt.walker attempt.moment k) attempt trigger passed ≡ notifies_by pipe (wait_collected_as waited attempt.walker attempt.moment k) attempt trigger attach passed
notify_by waited k attempt trigger attach pipe passed free attached room =
    let base : KernelState = wait_collected_as waited attempt.walker attempt.moment k in
    let w = k.waits in
    let two = limits_are_left (is_exhausted w) (is_full (collected attempt.walker w)) (limits_after_wait (still_waits (wait_of w.waits attempt.walker)) (is_exhausted w) (is_full (collected attempt.walker w)) None (free_waits waited attempt.walker w free) room) in
    ap (λ (o : Option ℕ). notifies o pipe base attempt trigger passed) (attach_freed waited attempt.walker attempt.moment trigger.fs k ∙ attached) ∙
    by_pipe base attempt trigger attach pipe passed (ap is_exhausted (free_collected waited attempt.walker w free) ∙ two.0) (ap is_full (free_collected waited attempt.walker w free) ∙ two.1)
