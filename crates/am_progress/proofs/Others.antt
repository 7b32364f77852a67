-- What others do leaves each job what it has left, and the daemon what it serves.
use Rattle.std.proofs.Common.{◌≡◌, ◌⊎◌, ℕ, ◌+◌, ◌≤◌, Bool, true, false, List, [], ◌∷◌, Option, Some, refl, sym, ap, subst, inl, inr, ⊎_elim, ◌∙◌, arith}
use Rattle.std.proofs.lemmas.Bool.Decides.{nat_tests}
use Rattle.std.specs.Prelude.{◌==◌, ◌||◌, find}
use Rattle.std.specs.List.{list_any}
use Rattle.am_names.specs.{TokenKind, WaitRow}
use Rattle.am_names.specs.declared.row.TokenKind.TheVariants.{Missing, Expire}
use Rattle.am_names.proofs.Basics.{or_left, equal_by_test, differ_the_other_way}
use Rattle.am_state.specs.{Obs}
use Rattle.am_wait.proofs.FindLemmas.{or_first, find_append}
use Rattle.am_kernel.specs.{KernelState, with_latest, is_live, attach_of, attached_at, with_pipe, with_timeout, wait_collected_from, made_catatonic, catatonic_observations}
use Rattle.am_job.specs.{Outcome}
use Rattle.am_daemon.specs.{line_timeout, job_of, job_for, DaemonState, JobPlan, attach_held}
use Rattle.am_daemon.proofs.JobLemmas.{others_stay}
use Rattle.am_machine.specs.{Event, Answer, Step, outcome_of, NumbersAreAllocated, IsServed}
use Rattle.am_machine.specs.declared.event.Event.TheVariants as events
use Rattle.am_machine.specs.State.{State}
use Rattle.am_machine.proofs.Attachments.Held.{held_others}
use Rattle.am_machine.proofs.Attachments.Acts.{attach_given}
use Rattle.am_machine.proofs.Attachments.Grows.{attach_other, pipe_grows, attached_grows, timeout_grows}
use Rattle.am_machine.proofs.Tokens.Unchanged.{still_current}
use Rattle.am_machine.proofs.Tour.Walks as tour
use Rattle.am_machine.proofs.Tour.Walks.{AnyPath}
use Rattle.am_machine.proofs.Tour.Events as tours
use Rattle.am_machine.proofs.Tour.Events.{AnyJob, IsKnown, with_half, going, any_event}
use Rattle.am_progress.specs.{is_act_of, JobsStay, ends, ServesOn, ServiceLasts}
use Rattle.am_progress.proofs.Found.{live_of}
use Rattle.am_progress.proofs.Worlds.{IsWorld, after_runs}

-- ---- what walkers do

-- the file system has the attachment still, or it is seen to become catatonic
abbrev HasStill : KernelState → List Obs → KernelState → Type 0
HasStill k shown made = (fs : ℕ) → (attach_of made fs ≡ attach_of k fs) ⊎ (list_any (ends fs) shown ≡ true)

closed_if : (k : KernelState) (closes fs : ℕ) (rest : Bool) (b : Bool) → (closes == fs) ≡ b → (attach_of (made_catatonic closes k) fs ≡ attach_of k fs) ⊎ (((closes == fs) || rest) ≡ true)
closed_if k closes fs rest true e = inr (or_left (closes == fs) rest e)
closed_if k closes fs rest false e = inl (attach_other k closes fs (differ_the_other_way closes fs e))

closed_still : (k : KernelState) (closes : ℕ) → HasStill k (catatonic_observations closes k) (made_catatonic closes k)
closed_still k closes fs = closed_if k closes fs _ (closes == fs) refl

freed_same : (kind : TokenKind) (wait : WaitRow) (moment : ℕ) (k : KernelState) (fs : ℕ) → attach_of (wait_collected_from kind wait moment k) fs ≡ attach_of k fs
freed_same Missing wait moment k fs = refl
freed_same Expire wait moment k fs = refl

walks : tour.Keeps AnyPath HasStill
walks = record {
  nothing = λ k fs. inl refl;
  arrived = λ k attempt at passed w fs. inl refl;
  joined = λ k attempt token passed w fs. inl refl;
  notified = λ k attempt trigger attach passed w is fs. inl refl;
  expiring = λ k walker fs moment immediate trigger attach x other. inl refl;
  made_catatonic = λ k fs. closed_still k fs;
  collected = λ k kind wait status moment shown made g later fs. ⊎_elim (λ e. inl (e ∙ freed_same kind wait moment k fs)) (λ ended. inr ended) (later fs);
}

-- ---- events

-- it serves the file system still, or is seen to end that
abbrev ServesStill : State → List Obs → State → Type 0
ServesStill s shown t = (fs attach : ℕ) → IsServed s.kernel s.daemon fs attach → IsServed t.kernel t.daemon fs attach ⊎ (list_any (ends fs) shown ≡ true)

-- a job has still what it has left, unless it may be the one that acts; and so has the daemon what it serves
record Leaves (Acts : ℕ → Type 0) (s : State) (shown : List Obs) (t : State) : Type 0 where
  jobs : (number : ℕ) (row : JobPlan) → ((job : ℕ) → Acts job → (job == number) ≡ false) → job_of s.daemon.jobs number ≡ Some row → job_of t.daemon.jobs number ≡ Some row
  serves : NumbersAreAllocated s.kernel s.daemon → ServesStill s shown t

kernel_changes : (Acts : ℕ → Type 0) (s : State) (shown : List Obs) (k : KernelState) → HasStill s.kernel shown k → Leaves Acts s shown (with_half k s)
kernel_changes Acts s shown k h = record {
  jobs = λ number row other is. is;
  serves = λ g fs attach served. ⊎_elim (λ same. inl (record { current = same ∙ served.current; held = served.held })) (λ ended. inr ended) (h fs);
}

-- nothing changes of jobs and attachments
quietly : (Acts : ℕ → Type 0) (s t : State) (shown : List Obs) → t.daemon ≡ s.daemon → ((fs : ℕ) → attach_of t.kernel fs ≡ attach_of s.kernel fs) → Leaves Acts s shown t
quietly Acts s t shown daemon same = record {
  jobs = λ number row other is. ap (λ (d : DaemonState). job_of d.jobs number) daemon ∙ is;
  serves = λ g fs attach served. inl (record { current = same fs ∙ served.current; held = ap (λ (d : DaemonState). attach_held d fs) daemon ∙ served.held });
}

-- a job goes on, or it ends
goes : (Acts : ℕ → Type 0) (s : State) (shown : List Obs) (row : JobPlan) (outcome : Outcome) (k : KernelState) → Acts row.token → ((fs : ℕ) → attach_of k fs ≡ attach_of s.kernel fs) → Leaves Acts s shown (going row outcome k s)
goes Acts s shown row outcome k acts same = record {
  jobs = λ number found other is. others_stay s.daemon.jobs row.token outcome number (differ_the_other_way row.token number (other row.token acts)) ∙ is;
  serves = λ g fs attach served. inl (record { current = same fs ∙ served.current; held = served.held });
}

-- a file system with an attachment isn't one that has none
other_fs : (k : KernelState) (fs dead attach : ℕ) (b : Bool) → (fs == dead) ≡ b → is_live k dead ≡ false → attach_of k fs ≡ Some attach → b ≡ false
other_fs k fs dead attach false e ended current = refl
other_fs k fs dead attach true e ended current =
    let live : is_live k fs ≡ true = live_of k fs attach current in
    let dies : is_live k fs ≡ false = ap (is_live k) (equal_by_test fs dead e) ∙ ended in
    absurd cc

changes : (Acts : ℕ → Type 0) → tours.Keeps AnyPath Acts HasStill (Leaves Acts)
changes Acts = record {
  same = λ s. quietly Acts s s _ refl (λ fs. refl);
  attached = λ s path point at is fresh may. record {
    jobs = λ number row other found. found;
    serves = λ g fs attach served.
        let old : fs ≤ s.kernel.last_fs = (attach_given s.kernel s.daemon fs attach served.current g).1 in
        inl (record {
          current = still_current s.kernel (attached_at point.direct (line_timeout s.daemon point.entry) s.kernel at) fs attach (attached_grows point.direct (line_timeout s.daemon point.entry) s.kernel at fs g.autofs g.rise) served.current;
          held = held_others s.daemon.held (s.kernel.last_fs + 1) (s.kernel.last_attach + 1) fs (grind (arith, nat_tests, old)) ∙ served.held;
        });
  };
  mounted = λ s ns path at is may. quietly Acts s _ _ refl (λ fs. refl);
  bound = λ s source at may. quietly Acts s _ _ refl (λ fs. refl);
  unmounted = λ s at may. quietly Acts s _ _ refl (λ fs. refl);
  changed = λ s change at may. quietly Acts s _ _ refl (λ fs. refl);
  copied = λ s ns form may. quietly Acts s _ _ refl (λ fs. refl);
  dropped = λ s ns may. quietly Acts s _ _ refl (λ fs. refl);
  walks = walks;
  walked = λ s shown k moment h. kernel_changes Acts s shown (with_latest moment k) h;
  left = λ s walker mount is. quietly Acts s _ _ refl (λ fs. refl);
  made_catatonic = λ s fs. kernel_changes Acts s _ _ (closed_still s.kernel fs);
  timed = λ s fs timeout. record {
    jobs = λ number row other is. is;
    serves = λ g other attach served.
        inl (record { current = still_current s.kernel (with_timeout fs timeout s.kernel) other attach (timeout_grows s.kernel fs timeout other) served.current; held = served.held });
  };
  died = λ s. record { jobs = λ number row other is. is; serves = λ g fs attach served. inr refl };
  reattached = λ s fs row is dead. record {
    jobs = λ number found other job. job;
    serves = λ g other attach served.
        let differs = other_fs s.kernel other fs attach (other == fs) refl dead served.current in
        inl (record {
          current = still_current s.kernel (with_pipe fs s.kernel) other attach (pipe_grows s.kernel fs other dead) served.current;
          held = held_others s.daemon.held fs _ other (differ_the_other_way other fs differs) ∙ served.held;
        });
  };
  delivered = λ s token row taken. record {
    jobs = λ number found other is.
        find_append (λ (r : JobPlan). r.token == number) s.daemon.jobs (job_for row.attach row.packet s.daemon ∷ [])
        ∙ ap (λ (o : Option JobPlan). or_first o (find (λ (r : JobPlan). r.token == number) (job_for row.attach row.packet s.daemon ∷ []))) is;
    serves = λ g fs attach served. inl (record { current = served.current; held = served.held });
  };
  rested = λ s row a outcome i r. goes Acts s _ row outcome _ i.acts (λ fs. refl);
  directory_made = λ s row trigger i. goes Acts s _ row _ _ i.acts (λ fs. refl);
  directory_gone = λ s row trigger i. goes Acts s _ row _ _ i.acts (λ fs. refl);
  mounted_on = λ s row trigger entry i may. goes Acts s _ row _ _ i.acts (λ fs. refl);
  unmounted_on = λ s row trigger mount i u. goes Acts s _ row _ _ i.acts (λ fs. refl);
  recorded = λ s row trigger entry i held. goes Acts s _ row _ _ i.acts (λ fs. refl);
  replied = λ s row status its i is. goes Acts s _ row _ _ i.acts (λ fs. refl);
}

-- an event that is no act of the job may be one of another
abbrev pub IsOther : ℕ → ℕ → Type 0
IsOther number job = (job == number) ≡ false

pub other_acts : (number : ℕ) (s : State) (event : Event) → is_act_of number event ≡ false → IsKnown AnyPath (IsOther number) s event
other_acts number s (events.Act job failure) differs = differs
other_acts number s (events.Walk walker ns path now pipe) differs = tt
other_acts number s (events.Resume walker now pipe) differs = λ other row e. tt
other_acts number s _ differs = tt

outcome_jobs : (s : State) (event : Event) (number : ℕ) (row : JobPlan) → is_act_of number event ≡ false → job_of s.daemon.jobs number ≡ Some row → job_of (outcome_of s event).state.daemon.jobs number ≡ Some row
outcome_jobs s event number row differs is =
    let acts = IsOther number in
    (tours.outcome AnyPath acts HasStill (Leaves acts) (changes acts) s event (other_acts number s event differs)).well.jobs number row (λ job other. other) is

outcome_serves : (s : State) (event : Event) → NumbersAreAllocated s.kernel s.daemon → ServesStill s (outcome_of s event).seen (outcome_of s event).state
outcome_serves s event g = (tours.outcome AnyPath AnyJob HasStill (Leaves AnyJob) (changes AnyJob) s event (any_event s event)).well.serves g

-- ---- every step

pub jobs_stay : JobsStay
jobs_stay old event answer seen new (inl out) job row differs is = ap (λ (s : State). job_of s.daemon.jobs job) out.same ∙ is
jobs_stay old event answer seen new (inr comes) job row differs is = ap (λ (s : State). job_of s.daemon.jobs job) comes.left ∙ outcome_jobs old event job row differs is

step_serves : (old : State) → IsWorld old → (fs attach : ℕ) → IsServed old.kernel old.daemon fs attach → (event : Event) (answer : Answer) (seen : List Obs) (new : State) → Step old event answer seen new → IsServed new.kernel new.daemon fs attach ⊎ (list_any (ends fs) seen ≡ true)
step_serves old world fs attach served event answer seen new (inl out) = inl (subst (λ (s : State). IsServed s.kernel s.daemon fs attach) (sym out.same) served)
step_serves old world fs attach served event answer seen new (inr comes) =
    ⊎_elim
    (λ h. inl (subst (λ (s : State). IsServed s.kernel s.daemon fs attach) (sym comes.left) (record { current = h.current; held = h.held })))
    (λ ended. inr (ap (list_any (ends fs)) comes.shown ∙ ended))
    (outcome_serves old event world.consistent.agreed.given fs attach served)

pub service_lasts : ServiceLasts
service_lasts = after_runs ServesOn step_serves
