-- A walker's wait is collected as its walk begins again.
use Rattle.std.proofs.Common.{◌≡◌, ℕ, Bool, true, false, cond, not, ◌==◌, List, [], ◌∷◌, ◌++◌, Option, Some, None, Ok, Err, refl, sym, ap, subst, ◌∙◌}
use Rattle.std.specs.Prelude.{is_none, is_some}
use Rattle.std.proofs.lemmas.List.{append_assoc}
use Rattle.am_names.specs.{RefusedAs, Status, WaitRow, OpenToken}
use Rattle.am_names.specs.declared.errno.Errno.{Errno}
use Rattle.am_names.specs.declared.errno.Errno.TheVariants.{ENOENT, EPERM, EBUSY, EEXIST, EINVAL, EAGAIN, ELOOP, ENAMETOOLONG, ENOSPC, NoMemory, NotReleased, Stranger}
use Rattle.am_names.specs.declared.trigger.Trigger.{Trigger}
use Rattle.am_state.specs.{Obs}
use Rattle.am_state.specs.declared.obs.Obs.TheVariants as seen
use Rattle.am_wait.specs.{WaitRows, token_of, wait_of, is_full, collected, still_waits, status_refusal, wait_refusal, rejoin_refusal}
use Rattle.am_wait.proofs.CallLemmas.{idle_collected}
use Rattle.am_kernel.specs.{WalkRow, Attempt, KernelState, Proceeds, Fails, IsAsBefore, Yields, walk_row, without_walk, with_walk, with_joined, joins, passes, expired_uses, waits_collected, walks_ended, wait_collected_as, HasNoOpenWait}
use Rattle.am_kernel.specs.declared.waited.Waited.{Waited}
use Rattle.am_kernel.specs.declared.waited.Waited.TheVariants.{Idle, OnMount, OnExpiry}
use Rattle.am_kernel.specs.declared.progress.Progress.TheVariants.{Waits}
use Rattle.am_kernel.specs.CallOutcome.{CallOutcome}

-- ---- what is collected

pub free_collected : (waited : Waited) (walker : ℕ) (w : WaitRows) → HasNoOpenWait waited walker w → waits_collected waited walker w ≡ collected walker w
free_collected Idle walker w h = sym (idle_collected walker w h)
free_collected OnMount walker w h = refl
free_collected (OnExpiry trigger) walker w h = refl

answered_waits : (o : Option Status) → status_refusal o ≡ None → is_none o ≡ false
answered_waits None h = absurd cc
answered_waits (Some status) h = refl

answered : (o : Option WaitRow) → wait_refusal o ≡ None → still_waits o ≡ false
answered None h = absurd cc
answered (Some row) h = answered_waits row.status h

-- a walker that is free waits no longer
pub free_waits : (waited : Waited) (walker : ℕ) (w : WaitRows) → HasNoOpenWait waited walker w → still_waits (wait_of w.waits walker) ≡ false
free_waits Idle walker w h = rw h refl
free_waits OnMount walker w h = answered (wait_of w.waits walker) h
free_waits (OnExpiry trigger) walker w h = answered (wait_of w.waits walker) h

-- who is taken out twice is taken out once
taken_twice : (walker : ℕ) (walks : List WalkRow) → without_walk walker (without_walk walker walks) ≡ without_walk walker walks
taken_twice walker [] = refl
taken_twice walker (row ∷ walks) = by_test (row.walker == walker) refl (taken_twice walker walks)
  where
    by_test : (b : Bool) → (row.walker == walker) ≡ b → without_walk walker (without_walk walker walks) ≡ without_walk walker walks → without_walk walker (cond (not b) (row ∷ without_walk walker walks) (without_walk walker walks)) ≡ cond (not b) (row ∷ without_walk walker walks) (without_walk walker walks)
    by_test true e later = later
    by_test false e later = rw e (ap (λ (rows : List WalkRow). row ∷ rows) later)

pub put_again : (waited : Waited) (attempt : Attempt) (walks : List WalkRow) → with_walk attempt (walks_ended waited attempt.walker walks) ≡ with_walk attempt walks
put_again Idle attempt walks = refl
put_again OnMount attempt walks = ap (λ (rows : List WalkRow). rows ++ walk_row attempt ∷ []) (taken_twice attempt.walker walks)
put_again (OnExpiry trigger) attempt walks = ap (λ (rows : List WalkRow). rows ++ walk_row attempt ∷ []) (taken_twice attempt.walker walks)

-- the kernel without the wait
abbrev pub without_wait : Waited → ℕ → ℕ → KernelState → KernelState
without_wait waited walker moment k = record k {
  triggers = expired_uses waited moment k.triggers;
  waits = collected walker k.waits;
  walks = walks_ended waited walker k.walks;
}

pub free_kernel : (waited : Waited) (walker moment : ℕ) (k : KernelState) → HasNoOpenWait waited walker k.waits → wait_collected_as waited walker moment k ≡ without_wait waited walker moment k
free_kernel waited walker moment k h =
    ap (λ (w : WaitRows). record k { triggers = expired_uses waited moment k.triggers; waits = w; walks = walks_ended waited walker k.walks })
    (free_collected waited walker k.waits h)

-- ---- joining

full_at : (base k : KernelState) (attempt : Attempt) (token : ℕ) (passed : List Trigger) (before : List Obs) → is_full base.waits ≡ true →
    Yields (joins base attempt token passed) (Err ENOSPC) k k before before
full_at base k attempt token passed before full = rw full (refl, record { state = refl; seen = refl })

pub joins_full : (waited : Waited) (k : KernelState) (attempt : Attempt) (token : ℕ) (passed : List Trigger) (before : List Obs) → HasNoOpenWait waited attempt.walker k.waits → is_full (collected attempt.walker k.waits) ≡ true →
    Yields (joins (wait_collected_as waited attempt.walker attempt.moment k) attempt token passed) (Err ENOSPC) k k before before
joins_full waited k attempt token passed before free full =
    full_at (wait_collected_as waited attempt.walker attempt.moment k) k attempt token passed before (ap is_full (free_collected waited attempt.walker k.waits free) ∙ full)

joins_from : (waited : Waited) (k new : KernelState) (attempt : Attempt) (token : ℕ) (passed : List Trigger) (before after : List Obs) → is_full (collected attempt.walker k.waits) ≡ false →
    new ≡ with_joined attempt token passed (without_wait waited attempt.walker attempt.moment k) →
    after ≡ (before ++ passes attempt.walker passed) ++ seen.Waits attempt.walker token ∷ [] →
    Yields (joins (without_wait waited attempt.walker attempt.moment k) attempt token passed) (Ok (Waits token)) k new before after
joins_from waited k new attempt token passed before after room state shown =
    rw room (refl, record { state = state; seen = shown ∙ append_assoc before (passes attempt.walker passed) _ })

pub joins_as : (waited : Waited) (k new : KernelState) (attempt : Attempt) (token : ℕ) (passed : List Trigger) (before after : List Obs) → HasNoOpenWait waited attempt.walker k.waits → is_full (collected attempt.walker k.waits) ≡ false →
    new ≡ with_joined attempt token passed (without_wait waited attempt.walker attempt.moment k) →
    after ≡ (before ++ passes attempt.walker passed) ++ seen.Waits attempt.walker token ∷ [] →
    Yields (joins (wait_collected_as waited attempt.walker attempt.moment k) attempt token passed) (Ok (Waits token)) k new before after
joins_as waited k new attempt token passed before after free room state shown =
    subst (λ (base : KernelState). Yields (joins base attempt token passed) (Ok (Waits token)) k new before after) (sym (free_kernel waited attempt.walker attempt.moment k free))
    (joins_from waited k new attempt token passed before after room state shown)

-- ---- what joining lacks is memory

open_token : (o : Option OpenToken) → is_some o ≡ true → cond (is_none o) (Some EINVAL) None ≡ None
open_token None h = absurd cc
open_token (Some row) h = refl

rejoins : (waited : Waited) (walker token : ℕ) (w : WaitRows) → HasNoOpenWait waited walker w → is_some (token_of w.tokens token) ≡ true → is_full (collected walker w) ≡ false → rejoin_refusal token walker w ≡ None
rejoins waited walker token w free opened room = rw (free_waits waited walker w free, room) (open_token (token_of w.tokens token) opened)

memory_alone : (T : Type 0) (e : Errno) → RefusedAs {T = T} None (Err e) → e ≡ NoMemory
memory_alone T NoMemory h = refl
memory_alone T ENOENT h = absurd cc
memory_alone T EPERM h = absurd cc
memory_alone T EBUSY h = absurd cc
memory_alone T EEXIST h = absurd cc
memory_alone T EINVAL h = absurd cc
memory_alone T EAGAIN h = absurd cc
memory_alone T ELOOP h = absurd cc
memory_alone T ENAMETOOLONG h = absurd cc
memory_alone T ENOSPC h = absurd cc
memory_alone T NotReleased h = absurd cc
memory_alone T Stranger h = absurd cc

memory_meets : (o : CallOutcome) (old new : KernelState) (before after : List Obs) → IsAsBefore old new before after → Yields o (Err NoMemory) old new before after
memory_meets (Proceeds answer shown made) old new before after h = (refl, h)
memory_meets (Fails e) old new before after h = h

pub joins_wants : (T : Type 0) (waited : Waited) (kept k new : KernelState) (attempt : Attempt) (token : ℕ) (passed : List Trigger) (e : Errno) (before after : List Obs) → HasNoOpenWait waited attempt.walker k.waits → is_some (token_of k.waits.tokens token) ≡ true → is_full (collected attempt.walker k.waits) ≡ false → kept ≡ k →
    RefusedAs {T = T} (rejoin_refusal token attempt.walker kept.waits) (Err e) → new ≡ kept → after ≡ before →
    Yields (joins (wait_collected_as waited attempt.walker attempt.moment k) attempt token passed) (Err e) k new before after
joins_wants T waited kept k new attempt token passed e before after free opened room is_kept refused state shown =
    let o = joins (wait_collected_as waited attempt.walker attempt.moment k) attempt token passed in
    let first = ap (λ (s : KernelState). rejoin_refusal token attempt.walker s.waits) is_kept ∙ rejoins waited attempt.walker token k.waits free opened room in
    let none : RefusedAs {T = T} None (Err e) = subst (λ (first : Option Errno). RefusedAs {T = T} first (Err e)) first refused in
    subst (λ (f : Errno). Yields o (Err f) k new before after) (sym (memory_alone T e none)) (memory_meets o k new before after (record { state = state ∙ is_kept; seen = shown }))
