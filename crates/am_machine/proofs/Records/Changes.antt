-- Each change keeps pending records those of their tokens. A packet that is taken up needs what tokens
-- say of it, a job that goes on what is planned, and tokens that close need their numbers in the trace.
use Rattle.std.proofs.Common.{◌≡◌, ℕ, ◌==◌, not, List, refl, sym, subst}
use Rattle.std.proofs.lemmas.List.Elements.{All-nil, All-filter}
use Rattle.am_names.specs.{TokenKind, WaitRow}
use Rattle.am_names.specs.declared.row.TokenKind.TheVariants.{Missing, Expire}
use Rattle.am_wait.specs.{WaitRows, token_of}
use Rattle.am_state.specs.{RecordRow, QueuedRow, Obs}
use Rattle.am_kernel.specs.{KernelState, standing, made_catatonic, with_expiring, wait_collected_from, acknowledged}
use Rattle.am_kernel.specs.Walks as walks
use Rattle.am_job.specs.{without_fs, Act, Outcome}
use Rattle.am_daemon.specs.{DaemonState, JobPlan}
use Rattle.am_machine.specs.{Event, Setup, initial_state_of, outcome_of, IsInPipe, TokensAgree, IsPlanned, ArePlanned, IsOfItsToken, AreOfTheirTokens}
use Rattle.am_machine.specs.State.{State}
use Rattle.am_machine.proofs.Lists.Different.{all_found}
use Rattle.am_machine.proofs.Tokens.Notify.{AreNumbered}
use Rattle.am_machine.proofs.Tokens.Walks.{tokens_joined, last_joined, notice_token}
use Rattle.am_machine.proofs.Records.Tokens.{later_records, stays_later, opened_later, closed_later, answered_later, mounted_fits, taken_fits, finished_fits}
use Rattle.am_machine.proofs.Tour.Walks as tour
use Rattle.am_machine.proofs.Tour.Walks.{AnyPath}
use Rattle.am_machine.proofs.Tour.Events as tours
use Rattle.am_machine.proofs.Tour.Events.{AnyJob, going, IsNext, any_event}

-- ---- what walkers do

abbrev FitsBy : KernelState → List Obs → KernelState → Type 0
FitsBy k shown made = (d : DaemonState) → AreNumbered k.waits.tokens k.waits.last_token d.jobs → AreOfTheirTokens k.waits d.book → AreOfTheirTokens made.waits d.book

closed_fits : (k : KernelState) (fs : ℕ) (d : DaemonState) → AreNumbered k.waits.tokens k.waits.last_token d.jobs → AreOfTheirTokens k.waits d.book → AreOfTheirTokens (made_catatonic fs k).waits d.book
closed_fits k fs d n h = later_records k.waits (made_catatonic fs k).waits d.book (closed_later fs k.waits n.rise) h

after_freed : (kind : TokenKind) (k : KernelState) (wait : WaitRow) (moment : ℕ) (shown : List Obs) (made : KernelState) → FitsBy (wait_collected_from kind wait moment k) shown made → FitsBy k shown made
after_freed Missing k wait moment shown made later d n h = later d n (later_records k.waits (wait_collected_from Missing wait moment k).waits d.book (stays_later k.waits (wait_collected_from Missing wait moment k).waits (λ t. refl) refl) h)
after_freed Expire k wait moment shown made later d n h = later d n (later_records k.waits (wait_collected_from Expire wait moment k).waits d.book (stays_later k.waits (wait_collected_from Expire wait moment k).waits (λ t. refl) refl) h)

walkers : tour.Keeps AnyPath FitsBy
walkers = record {
  nothing = λ k d n h. h;
  arrived = λ k attempt at passed w d n h. h;
  joined = λ k attempt token passed w d n h.
      let found = token_of k.waits.tokens token in
      later_records k.waits (walks.with_joined attempt token passed k).waits d.book
      (stays_later k.waits (walks.with_joined attempt token passed k).waits (λ t. tokens_joined found token attempt.walker t k.waits) (last_joined found token attempt.walker k.waits)) h;
  notified = λ k attempt trigger attach passed w is d n h.
      let made = walks.with_notified attempt trigger attach passed k in
      later_records k.waits made.waits d.book (opened_later k.waits made.waits (notice_token k attempt.walker trigger Missing) refl refl refl) h;
  expiring = λ k walker fs moment immediate trigger attach x d n h.
      let made = with_expiring walker trigger attach k in
      later_records k.waits made.waits d.book (opened_later k.waits made.waits (notice_token k walker trigger Expire) refl refl refl) h;
  made_catatonic = λ k fs d n h. closed_fits k fs d n h;
  collected = λ k kind wait status moment shown made g later. after_freed kind k wait moment shown made later;
}

-- ---- events

record Keeps (s : State) (shown : List Obs) (t : State) : Type 0 where
  keeps : AreNumbered s.kernel.waits.tokens s.kernel.waits.last_token s.daemon.jobs → ArePlanned s.daemon.jobs → TokensAgree s.kernel s.daemon.jobs → AreOfTheirTokens s.kernel.waits s.daemon.book → AreOfTheirTokens t.kernel.waits t.daemon.book

-- tokens and book stay
stays : (s t : State) (shown : List Obs) → t.kernel.waits ≡ s.kernel.waits → t.daemon.book ≡ s.daemon.book → Keeps s shown t
stays s t shown waits book = record {
  keeps = λ n planned tokens h. subst (λ (rows : List RecordRow). AreOfTheirTokens t.kernel.waits rows) (sym book) (subst (λ (w : WaitRows). AreOfTheirTokens w s.daemon.book) (sym waits) h);
}

-- a job goes on, or ends
goes : (s : State) (shown : List Obs) (row : JobPlan) (outcome : Outcome) (k : KernelState) (a : Act) → IsNext AnyJob s row a → (AreOfTheirTokens s.kernel.waits s.daemon.book → AreOfTheirTokens k.waits s.daemon.book) → Keeps s shown (going row outcome k s)
goes s shown row outcome k a i more = record {
  keeps = λ n planned tokens h.
      finished_fits k.waits s.daemon row outcome i.is (all_found IsPlanned (λ (r : JobPlan). r.token == row.token) s.daemon.jobs row planned i.is) (more h);
}

changes : tours.Keeps AnyPath AnyJob FitsBy Keeps
changes = record {
  same = λ s. stays s s _ refl refl;
  attached = λ s path point at is fresh may. stays s _ _ refl refl;
  mounted = λ s ns path at is may. stays s _ _ refl refl;
  bound = λ s source at may. stays s _ _ refl refl;
  unmounted = λ s at may. stays s _ _ refl refl;
  changed = λ s change at may. stays s _ _ refl refl;
  copied = λ s ns form may. stays s _ _ refl refl;
  dropped = λ s ns may. stays s _ _ refl refl;
  walks = walkers;
  walked = λ s shown k moment fits. record { keeps = λ n planned tokens h. fits s.daemon n h };
  left = λ s walker mount is. stays s _ _ refl refl;
  made_catatonic = λ s fs. record { keeps = λ n planned tokens h. closed_fits s.kernel fs s.daemon n h };
  timed = λ s fs timeout. stays s _ _ refl refl;
  died = λ s. record { keeps = λ n planned tokens h. All-nil _ };
  reattached = λ s fs row is dead. record {
    keeps = λ n planned tokens h.
        mounted_fits s.kernel.waits (standing s.kernel fs) (without_fs fs s.daemon.book)
        (All-filter (λ (row : RecordRow). not (row.trigger.fs == fs)) (λ (row : RecordRow). IsOfItsToken s.kernel.waits row.entry) s.daemon.book h);
  };
  delivered = λ s token row taken. record {
    keeps = λ n planned tokens h.
        taken_fits s.kernel s.daemon row (all_found (IsInPipe s.kernel s.daemon.jobs) (λ (r : QueuedRow). r.token == token) s.kernel.queue row tokens.in_pipe taken.queued) n h;
  };
  rested = λ s row a outcome i r. goes s _ row _ s.kernel a i (λ h. h);
  directory_made = λ s row trigger i. goes s _ row _ _ _ i (λ h. h);
  directory_gone = λ s row trigger i. goes s _ row _ _ _ i (λ h. h);
  mounted_on = λ s row trigger entry i may. goes s _ row _ _ _ i (λ h. h);
  unmounted_on = λ s row trigger mount i u. goes s _ row _ _ _ i (λ h. h);
  recorded = λ s row trigger entry i held. goes s _ row _ _ _ i (λ h. h);
  replied = λ s row status its i is.
      goes s _ row _ _ _ i (λ h. later_records s.kernel.waits (acknowledged row.token status s.kernel).waits s.daemon.book (answered_later row.token status s.kernel.waits) h);
}

pub outcome_records : (s : State) (event : Event) → AreNumbered s.kernel.waits.tokens s.kernel.waits.last_token s.daemon.jobs → ArePlanned s.daemon.jobs → TokensAgree s.kernel s.daemon.jobs → AreOfTheirTokens s.kernel.waits s.daemon.book →
    AreOfTheirTokens (outcome_of s event).state.kernel.waits (outcome_of s event).state.daemon.book
outcome_records s event n planned tokens h = (tours.outcome AnyPath AnyJob FitsBy Keeps changes s event (any_event s event)).well.keeps n planned tokens h

pub initial_records : (opening : Setup) → AreOfTheirTokens (initial_state_of opening).kernel.waits (initial_state_of opening).daemon.book
initial_records opening = All-nil _
