-- Each change keeps what worlds keep beside the machine's own invariant: triggers that the kernel has
-- written down are there, who waits is inside no mount, each attachment is one file system's, and jobs
-- have few acts.
use Rattle.std.proofs.Common.{◌≡◌, ◌≤◌, ℕ, Bool, true, false, List, [], ◌∷◌, ◌++◌, map, Option, Some, refl, ap, sym, subst, ◌∙◌, arith}
use Rattle.std.specs.Prelude.{◌==◌, is_some, is_none, find, if◌then◌else◌}
use Rattle.std.specs.List.{All}
use Rattle.am_names.specs.{Position, TokenKind, WaitRow}
use Rattle.am_names.specs.declared.row.TokenKind.TheVariants.{Missing, Expire}
use Rattle.am_names.specs.declared.trigger.Trigger.{Trigger}
use Rattle.am_state.specs.{Obs}
use Rattle.am_trigger.specs.{Autofs, TriggerRows, catatonic_row, with_catatonic}
use Rattle.am_walk.specs.{Stop, walk_of}
use Rattle.am_kernel.specs.{Attempt, Attached, KernelState, is_trigger_of, with_latest, with_directory, without_directory, attached_at, with_mount_on, gone_with, without_mounts, with_timeout, timeout_row, without_packet, with_pipe, expiry_of, wait_collected_from, made_catatonic}
use Rattle.am_job.specs.{Outcome}
use Rattle.am_daemon.specs.{line_timeout, JobPlan}
use Rattle.am_machine.specs.{Event, outcome_of, IsConsistent}
use Rattle.am_machine.specs.State.{State}
use Rattle.am_machine.proofs.Lists.Different.{all_found}
use Rattle.am_machine.proofs.Attachments.Grows.{timeout_keeps}
use Rattle.am_machine.proofs.Tour.Picked.{picked_use}
use Rattle.am_machine.proofs.Tour.Walks as tour
use Rattle.am_machine.proofs.Tour.Walks.{Walking, AnyPath}
use Rattle.am_machine.proofs.Tour.Events as tours
use Rattle.am_machine.proofs.Tour.Events.{AnyJob, with_half, going, any_event}
use Rattle.am_progress.proofs.Attaches.{AreOfOne, one_push, one_same, one_piped}
use Rattle.am_progress.proofs.Triggers.Walks.{IsSite, IsSiteStop, MeetsSites, walk_sites, meets_weaker}
use Rattle.am_progress.proofs.Triggers.Rows.{AreSites, same_rows, arrived_on, joined_sites, notified_sites, expiring_sites, closed_sites, acknowledged_sites, left_sites, freed_from_sites, sites_weaker}
use Rattle.am_progress.proofs.Plans.{IsOfPlan, finished_of_plan, taken_of_plan}

pub record Holds (s : State) : Type 0 where
  pub kernel : AreSites s.kernel
  pub plans : All IsOfPlan s.daemon.jobs

-- ---- autofs that change

first_by_cases : (x y : Autofs) (o p : Option Autofs) (g : Trigger) (b c : Bool) → c ≡ b → y.direct ≡ x.direct → is_trigger_of p g ≡ is_trigger_of o g → is_trigger_of (if c then Some y else p) g ≡ is_trigger_of (if b then Some x else o) g
first_by_cases x y o p g true true same direct later = ap (λ (d : Bool). if d then is_none g.name else is_some g.name) direct
first_by_cases x y o p g false false same direct later = later
first_by_cases x y o p g true false same direct later = absurd cc
first_by_cases x y o p g false true same direct later = absurd cc

marked_fs : (b c : Bool) (row : Autofs) → (if b then record row { catatonic = c } else row).fs ≡ row.fs
marked_fs true c row = refl
marked_fs false c row = refl

marked_direct : (b c : Bool) (row : Autofs) → (if b then record row { catatonic = c } else row).direct ≡ row.direct
marked_direct true c row = refl
marked_direct false c row = refl

-- one that becomes catatonic, or is so no longer, has the same triggers
marked_sites : (fs : ℕ) (c : Bool) (rows : List Autofs) (g : Trigger) → is_trigger_of (find (λ (r : Autofs). r.fs == g.fs) (map (catatonic_row fs c) rows)) g ≡ is_trigger_of (find (λ (r : Autofs). r.fs == g.fs) rows) g
marked_sites fs c [] g = refl
marked_sites fs c (row ∷ rows) g =
    first_by_cases row (catatonic_row fs c row) _ _ g (row.fs == g.fs) ((catatonic_row fs c row).fs == g.fs) (ap (λ (n : ℕ). n == g.fs) (marked_fs (row.fs == fs) c row)) (marked_direct (row.fs == fs) c row) (marked_sites fs c rows g)

pub still_site : (fs : ℕ) (c : Bool) (t : TriggerRows) (g : Trigger) → IsSite t g → IsSite (with_catatonic fs c t) g
still_site fs c t g h = marked_sites fs c t.autofs g ∙ h

more_by_cases : (x : Autofs) (o p : Option Autofs) (g : Trigger) (b : Bool) → (is_trigger_of o g ≡ true → is_trigger_of p g ≡ true) → is_trigger_of (if b then Some x else o) g ≡ true → is_trigger_of (if b then Some x else p) g ≡ true
more_by_cases x o p g true later h = h
more_by_cases x o p g false later h = later h

-- one more changes none
pub more_sites : (rows : List Autofs) (new : Autofs) (g : Trigger) → is_trigger_of (find (λ (r : Autofs). r.fs == g.fs) rows) g ≡ true → is_trigger_of (find (λ (r : Autofs). r.fs == g.fs) (rows ++ new ∷ [])) g ≡ true
more_sites [] new g h = absurd cc
more_sites (row ∷ rows) new g h = more_by_cases row (find (λ (r : Autofs). r.fs == g.fs) rows) (find (λ (r : Autofs). r.fs == g.fs) (rows ++ new ∷ [])) g (row.fs == g.fs) (more_sites rows new g) h

pub closed_leaves : (k : KernelState) (fs : ℕ) → AreSites k → AreSites (made_catatonic fs k)
closed_leaves k fs h = sites_weaker (IsSite k.triggers) (IsSite (with_catatonic fs true k.triggers)) (made_catatonic fs k) (still_site fs true k.triggers) (closed_sites (IsSite k.triggers) fs k h)

-- ---- what walkers do

-- the walk meets triggers of the kernel's autofs
meets : (k : KernelState) (attempt : Attempt) (stop : Stop) (passed : List Trigger) (w : Walking AnyPath k attempt stop passed) → MeetsSites k.triggers (walk_of w.scene attempt.ns attempt.path)
meets k attempt stop passed w =
    meets_weaker w.scene.triggers k.triggers (walk_of w.scene attempt.ns attempt.path)
    (λ g there. subst (λ (rows : List Autofs). is_trigger_of (find (λ (r : Autofs). r.fs == g.fs) rows) g ≡ true) w.autofs there)
    (walk_sites w.scene attempt.ns attempt.path)

passed_sites : (k : KernelState) (attempt : Attempt) (stop : Stop) (passed : List Trigger) → Walking AnyPath k attempt stop passed → All (IsSite k.triggers) passed
passed_sites k attempt stop passed w = subst (All (IsSite k.triggers)) w.passed_is (meets k attempt stop passed w).passes

stop_site : (k : KernelState) (attempt : Attempt) (stop : Stop) (passed : List Trigger) → Walking AnyPath k attempt stop passed → IsSiteStop k.triggers stop
stop_site k attempt stop passed w = subst (IsSiteStop k.triggers) w.stop_is (meets k attempt stop passed w).stops

freed_leaves : (kind : TokenKind) (wait : WaitRow) (moment : ℕ) (k : KernelState) → IsSite k.triggers wait.trigger → AreSites k → AreSites (wait_collected_from kind wait moment k)
freed_leaves Missing wait moment k there h = freed_from_sites (IsSite k.triggers) Missing wait moment k there h
freed_leaves Expire wait moment k there h = freed_from_sites (IsSite k.triggers) Expire wait moment k there h

abbrev StaysAtSites : KernelState → List Obs → KernelState → Type 0
StaysAtSites k shown made = AreSites k → AreSites made

walks : tour.Keeps AnyPath StaysAtSites
walks = record {
  nothing = λ k h. h;
  arrived = λ k attempt at passed w h. arrived_on (IsSite k.triggers) k attempt at.mount passed w.free (passed_sites k attempt _ passed w) h;
  joined = λ k attempt token passed w h. joined_sites (IsSite k.triggers) k attempt token passed w.free (passed_sites k attempt _ passed w) h;
  notified = λ k attempt trigger attach passed w is h. notified_sites (IsSite k.triggers) k attempt trigger attach passed w.free (stop_site k attempt _ passed w) (passed_sites k attempt _ passed w) h;
  expiring = λ k walker fs moment immediate trigger attach x h. expiring_sites (IsSite k.triggers) k walker trigger attach x.free.uses (picked_use (IsSite k.triggers) (expiry_of k fs moment immediate) trigger x.next h.used) h;
  made_catatonic = λ k fs h. closed_leaves k fs h;
  collected = λ k kind wait status moment shown made g later h.
      let there = all_found (λ (r : WaitRow). IsSite k.triggers r.trigger) (λ (r : WaitRow). r.walker == wait.walker) k.waits.waits wait h.waits g.waits in
      later (freed_leaves kind wait moment k there h);
}

-- ---- events

record Keeps (s : State) (shown : List Obs) (t : State) : Type 0 where
  keeps : IsConsistent s → Holds s → Holds t

sites_same : (k made : KernelState) → ((g : Trigger) → IsSite k.triggers g → IsSite made.triggers g) → made.waits ≡ k.waits → made.triggers.uses ≡ k.triggers.uses → made.uses ≡ k.uses → made.attached ≡ k.attached → AreSites k → AreSites made
sites_same k made more waits used uses attached h = sites_weaker (IsSite k.triggers) (IsSite made.triggers) made more (same_rows (IsSite k.triggers) k made waits used uses attached h)

-- the attachments have changed alone, or the autofs too
with_attaches : (k made : KernelState) → ((g : Trigger) → IsSite k.triggers g → IsSite made.triggers g) → made.waits ≡ k.waits → made.triggers.uses ≡ k.triggers.uses → made.uses ≡ k.uses → AreOfOne made.attached → AreSites k → AreSites made
with_attaches k made more waits used uses attaches h =
    let before = sites_same k (record made { attached = k.attached }) more waits used uses refl h in
    record { tokens = before.tokens; waits = before.waits; used = before.used; outside = before.outside; attaches = attaches }

attached_keeps : (direct : Bool) (timeout : ℕ) (k : KernelState) (at : Position) → All (λ (row : Attached). row.attach ≤ k.last_attach) k.attached → AreSites k → AreSites (attached_at direct timeout k at)
attached_keeps direct timeout k at given h =
    with_attaches k (attached_at direct timeout k at) (λ g there. more_sites k.triggers.autofs _ g there) refl refl refl
    (one_push k.attached _ k.last_attach h.attaches given (omega arith)) h

timeout_leaves : (k : KernelState) (fs timeout : ℕ) → AreSites k → AreSites (with_timeout fs timeout k)
timeout_leaves k fs timeout h =
    with_attaches k (with_timeout fs timeout k) (λ g there. there) refl refl refl
    (one_same (timeout_row fs timeout) k.attached (λ row. (timeout_keeps fs timeout row).1) (λ row. (timeout_keeps fs timeout row).0) h.attaches) h

-- the daemon's jobs stay
stays : (s t : State) (shown : List Obs) → (AreSites s.kernel → AreSites t.kernel) → t.daemon.jobs ≡ s.daemon.jobs → Keeps s shown t
stays s t shown h jobs = record { keeps = λ c held. record { kernel = h held.kernel; plans = subst (All IsOfPlan) (sym jobs) held.plans } }

-- and so do waits, uses, autofs and attachments
same : (s t : State) (shown : List Obs) → t.kernel.waits ≡ s.kernel.waits → t.kernel.triggers.uses ≡ s.kernel.triggers.uses → t.kernel.uses ≡ s.kernel.uses → t.kernel.attached ≡ s.kernel.attached → t.kernel.triggers.autofs ≡ s.kernel.triggers.autofs → t.daemon.jobs ≡ s.daemon.jobs → Keeps s shown t
same s t shown waits used uses attached autofs jobs =
    stays s t shown (sites_same s.kernel t.kernel (λ g there. subst (λ (rows : List Autofs). is_trigger_of (find (λ (r : Autofs). r.fs == g.fs) rows) g ≡ true) (sym autofs) there) waits used uses attached) jobs

-- a job goes on
goes : (s : State) (shown : List Obs) (row : JobPlan) (outcome : Outcome) (k : KernelState) → (AreSites s.kernel → AreSites k) → Keeps s shown (going row outcome k s)
goes s shown row outcome k h = record { keeps = λ c held. record { kernel = h held.kernel; plans = finished_of_plan row.token outcome s.daemon.jobs held.plans } }

events : tours.Keeps AnyPath AnyJob StaysAtSites Keeps
events = record {
  same = λ s. same s s _ refl refl refl refl refl refl;
  attached = λ s path point at is fresh may. record { keeps = λ c h. record { kernel = attached_keeps point.direct (line_timeout s.daemon point.entry) s.kernel at c.agreed.given.attached h.kernel; plans = h.plans } };
  mounted = λ s ns path at is may. same s _ _ refl refl refl refl refl refl;
  bound = λ s source at may. same s _ _ refl refl refl refl refl refl;
  unmounted = λ s at may. same s _ _ refl refl refl refl refl refl;
  changed = λ s change at may. same s _ _ refl refl refl refl refl refl;
  copied = λ s ns form may. same s _ _ refl refl refl refl refl refl;
  dropped = λ s ns may. same s _ _ refl refl refl refl refl refl;
  walks = walks;
  walked = λ s shown k moment h. stays s _ _ (λ held. sites_same k (with_latest moment k) (λ g there. there) refl refl refl refl (h held)) refl;
  left = λ s walker mount is. stays s _ _ (left_sites (IsSite s.kernel.triggers) walker s.kernel) refl;
  made_catatonic = λ s fs. stays s _ _ (closed_leaves s.kernel fs) refl;
  timed = λ s fs timeout. stays s _ _ (timeout_leaves s.kernel fs timeout) refl;
  died = λ s. same s _ _ refl refl refl refl refl refl;
  reattached = λ s fs row is dead. record {
    keeps = λ c h. record {
      kernel = with_attaches s.kernel (with_pipe fs s.kernel) (still_site fs false s.kernel.triggers) refl refl refl
          (one_piped fs s.kernel.last_attach s.kernel.attached h.kernel.attaches c.agreed.given.attached) h.kernel;
      plans = h.plans;
    };
  };
  delivered = λ s token row taken. record { keeps = λ c h. record { kernel = sites_same s.kernel (without_packet row.token s.kernel) (λ g there. there) refl refl refl refl h.kernel; plans = taken_of_plan row.attach row.packet s.daemon h.plans } };
  rested = λ s row a outcome i r. goes s _ row outcome s.kernel (λ h. h);
  directory_made = λ s row trigger i. goes s _ row _ _ (sites_same s.kernel (with_directory trigger s.kernel) (λ g there. there) refl refl refl refl);
  directory_gone = λ s row trigger i. goes s _ row _ _ (sites_same s.kernel (without_directory trigger s.kernel) (λ g there. there) refl refl refl refl);
  mounted_on = λ s row trigger entry i may. goes s _ row _ _ (sites_same s.kernel (with_mount_on trigger s.kernel) (λ g there. there) refl refl refl refl);
  unmounted_on = λ s row trigger mount i u.
      goes s _ row _ _ (sites_same s.kernel (without_mounts (gone_with s.kernel (Some mount)) s.kernel) (λ g there. there) refl refl refl refl);
  recorded = λ s row trigger entry i held. goes s _ row _ s.kernel (λ h. h);
  replied = λ s row status its i is. goes s _ row _ _ (acknowledged_sites (IsSite s.kernel.triggers) row.token status s.kernel);
}

pub outcome_holds : (s : State) (event : Event) → IsConsistent s → Holds s → Holds (outcome_of s event).state
outcome_holds s event c h = (tours.outcome AnyPath AnyJob StaysAtSites Keeps events s event (any_event s event)).well.keeps c h
