-- Each change keeps numbers below those that were given, and the daemon knowing its autofs. A packet that
-- is taken up needs what tokens say of it, and a job that goes on what is planned and that jobs have
-- different tokens.
use Rattle.std.proofs.Common.{◌≡◌, ℕ, ◌≤◌, ◌==◌, List, refl, ap, arith}
use Rattle.std.specs.Prelude.{is_some}
use Rattle.std.proofs.lemmas.List.Elements.{All-nil}
use Rattle.am_names.specs.{TokenKind, WaitRow}
use Rattle.am_names.specs.declared.row.TokenKind.TheVariants.{Missing, Expire}
use Rattle.am_state.specs.{QueuedRow, Obs}
use Rattle.am_kernel.specs.{KernelState, with_latest, with_expiring, wait_collected_from}
use Rattle.am_kernel.specs.Walks as walks
use Rattle.am_job.specs.{Act, Outcome}
use Rattle.am_daemon.specs.{line_timeout, DaemonState, JobPlan}
use Rattle.am_machine.specs.{Event, Setup, initial_state_of, outcome_of, NumbersAreAllocated, IsInPipe, TokensAgree, IsPlanned, ArePlanned}
use Rattle.am_machine.specs.State.{State}
use Rattle.am_machine.proofs.Lists.Different.{all_found}
use Rattle.am_machine.proofs.Attachments.Rows.{given_more, given_closed, given_timeout, given_attached, given_reattached}
use Rattle.am_machine.proofs.Attachments.Acts.{given_taken, given_finished}
use Rattle.am_machine.proofs.Tour.Walks as tour
use Rattle.am_machine.proofs.Tour.Walks.{AnyPath}
use Rattle.am_machine.proofs.Tour.Events as tours
use Rattle.am_machine.proofs.Tour.Events.{AnyJob, with_half, going, IsNext, any_event}

-- ---- what walkers do

abbrev pub GivenBy : KernelState → List Obs → KernelState → Type 0
GivenBy k shown made = (d : DaemonState) → NumbersAreAllocated k d → NumbersAreAllocated made d

pub given_freed : (kind : TokenKind) (k : KernelState) (wait : WaitRow) (moment : ℕ) (d : DaemonState) → NumbersAreAllocated k d → NumbersAreAllocated (wait_collected_from kind wait moment k) d
given_freed Missing k wait moment d h = given_more k (wait_collected_from Missing wait moment k) d refl refl refl (omega arith) h
given_freed Expire k wait moment d h = given_more k (wait_collected_from Expire wait moment k) d refl refl refl (omega arith) h

pub given_walkers : tour.Keeps AnyPath GivenBy
given_walkers = record {
  nothing = λ k d h. h;
  arrived = λ k attempt at passed w d h. given_more k (walks.arrived attempt at.mount passed k) d refl refl refl (omega arith) h;
  joined = λ k attempt token passed w d h. given_more k (walks.with_joined attempt token passed k) d refl refl refl (omega arith) h;
  notified = λ k attempt trigger attach passed w is d h. given_more k (walks.with_notified attempt trigger attach passed k) d refl refl refl (omega arith) h;
  expiring = λ k walker fs moment immediate trigger attach x d h. given_more k (with_expiring walker trigger attach k) d refl refl refl (omega arith) h;
  made_catatonic = λ k fs d h. given_closed k d fs h;
  collected = λ k kind wait status moment shown made g later d h. later d (given_freed kind k wait moment d h);
}

-- ---- events

record Keeps (s : State) (shown : List Obs) (t : State) : Type 0 where
  keeps : ArePlanned s.daemon.jobs → TokensAgree s.kernel s.daemon.jobs → NumbersAreAllocated s.kernel s.daemon → NumbersAreAllocated t.kernel t.daemon

-- the number of file systems may rise
more : (s : State) (shown : List Obs) (k : KernelState) → k.attached ≡ s.kernel.attached → k.triggers.autofs ≡ s.kernel.triggers.autofs → k.last_attach ≡ s.kernel.last_attach → s.kernel.last_fs ≤ k.last_fs → Keeps s shown (with_half k s)
more s shown k attached autofs last le = record { keeps = λ planned tokens h. given_more s.kernel k s.daemon attached autofs last le h }

-- and the job goes on, or ends
goes : (s : State) (shown : List Obs) (row : JobPlan) (outcome : Outcome) (k : KernelState) (a : Act) → IsNext AnyJob s row a → k.attached ≡ s.kernel.attached → k.triggers.autofs ≡ s.kernel.triggers.autofs → k.last_attach ≡ s.kernel.last_attach → s.kernel.last_fs ≤ k.last_fs → Keeps s shown (going row outcome k s)
goes s shown row outcome k a i attached autofs last le = record {
  keeps = λ planned tokens h.
      given_finished k s.daemon row outcome i.is (all_found IsPlanned (λ (r : JobPlan). r.token == row.token) s.daemon.jobs row planned i.is) tokens.numbers
      (given_more s.kernel k s.daemon attached autofs last le h);
}

changes : tours.Keeps AnyPath AnyJob GivenBy Keeps
changes = record {
  same = λ s. record { keeps = λ planned tokens h. h };
  attached = λ s path point at is fresh may. record { keeps = λ planned tokens h. given_attached point.direct (line_timeout s.daemon point.entry) s.kernel at path s.daemon h };
  mounted = λ s ns path at is may. more s _ _ refl refl refl (omega arith);
  bound = λ s source at may. more s _ _ refl refl refl (omega arith);
  unmounted = λ s at may. more s _ _ refl refl refl (omega arith);
  changed = λ s change at may. more s _ _ refl refl refl (omega arith);
  copied = λ s ns form may. more s _ _ refl refl refl (omega arith);
  dropped = λ s ns may. more s _ _ refl refl refl (omega arith);
  walks = given_walkers;
  walked = λ s shown k moment h. record { keeps = λ planned tokens g. given_more k (with_latest moment k) s.daemon refl refl refl (omega arith) (h s.daemon g) };
  left = λ s walker mount is. more s _ _ refl refl refl (omega arith);
  made_catatonic = λ s fs. record { keeps = λ planned tokens h. given_closed s.kernel s.daemon fs h };
  timed = λ s fs timeout. record { keeps = λ planned tokens h. given_timeout s.kernel s.daemon fs timeout h };
  died = λ s. record {
    keeps = λ planned tokens h. record {
      rise = h.rise;
      attached = h.attached;
      autofs = h.autofs;
      known = h.known;
      jobs = h.jobs;
      book = All-nil _;
      familiar = record {
        autofs_known = h.familiar.autofs_known;
        autofs_attached = h.familiar.autofs_attached;
        held_known = All-nil _;
      };
    };
  };
  reattached = λ s fs row is dead. record { keeps = λ planned tokens h. given_reattached s.kernel s.daemon fs (ap is_some is) h };
  delivered = λ s token row taken. record {
    keeps = λ planned tokens h.
        given_taken s.kernel s.daemon row (all_found (IsInPipe s.kernel s.daemon.jobs) (λ (r : QueuedRow). r.token == token) s.kernel.queue row tokens.in_pipe taken.queued) h;
  };
  rested = λ s row a outcome i r. goes s _ row _ s.kernel a i refl refl refl (omega arith);
  directory_made = λ s row trigger i. goes s _ row _ _ _ i refl refl refl (omega arith);
  directory_gone = λ s row trigger i. goes s _ row _ _ _ i refl refl refl (omega arith);
  mounted_on = λ s row trigger entry i may. goes s _ row _ _ _ i refl refl refl (omega arith);
  unmounted_on = λ s row trigger mount i u. goes s _ row _ _ _ i refl refl refl (omega arith);
  recorded = λ s row trigger entry i held. goes s _ row _ _ _ i refl refl refl (omega arith);
  replied = λ s row status its i is. goes s _ row _ _ _ i refl refl refl (omega arith);
}

pub outcome_given : (s : State) (event : Event) → ArePlanned s.daemon.jobs → TokensAgree s.kernel s.daemon.jobs → NumbersAreAllocated s.kernel s.daemon → NumbersAreAllocated (outcome_of s event).state.kernel (outcome_of s event).state.daemon
outcome_given s event planned tokens h = (tours.outcome AnyPath AnyJob GivenBy Keeps changes s event (any_event s event)).well.keeps planned tokens h

pub initial_given : (opening : Setup) → NumbersAreAllocated (initial_state_of opening).kernel (initial_state_of opening).daemon
initial_given opening = record { rise = tt; attached = All-nil _; autofs = All-nil _; known = All-nil _; jobs = All-nil _; book = All-nil _; familiar = record { autofs_known = All-nil _; autofs_attached = All-nil _; held_known = All-nil _ } }
