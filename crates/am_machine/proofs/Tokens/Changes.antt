-- Each change keeps what kernel and jobs agree on of tokens. New attachments need the numbers that were
-- given, a job that goes on what is planned, and new tokens need the numbers that the trace has of tokens.
use Rattle.std.proofs.Common.{◌≡◌, ℕ, ◌==◌, false, List, refl}
use Rattle.std.proofs.lemmas.List.Elements.{All-nil}
use Rattle.am_names.specs.{Status}
use Rattle.am_state.specs.{QueuedRow, Obs}
use Rattle.am_kernel.specs.{KernelState, with_latest, attached_at, with_pipe, acknowledged, answering, with_timeout}
use Rattle.am_job.specs.{Act}
use Rattle.am_job.specs.declared.act.Act.TheVariants as act
use Rattle.am_job.specs.declared.act.Outcome as job
use Rattle.am_job.specs.declared.act.Outcome.TheVariants as came
use Rattle.am_daemon.specs.{line_timeout, JobPlan, job_for}
use Rattle.am_machine.specs.{Event, Setup, initial_state_of, outcome_of, NumbersAreAllocated, IsInPipe, TokensAgree, IsPlanned, ArePlanned}
use Rattle.am_machine.specs.State.{State}
use Rattle.am_machine.specs.Events.Deliveries as deliveries
use Rattle.am_machine.proofs.Lists.Different.{all_found}
use Rattle.am_machine.proofs.Attachments.Grows.{attached_grows, pipe_grows, timeout_grows}
use Rattle.am_machine.proofs.Planned.Acts.{acknowledges, goes_after, ends_after}
use Rattle.am_machine.proofs.Tokens.Notify.{AreNumbered}
use Rattle.am_machine.proofs.Tokens.Unchanged.{stays_agree, SameTokens, jobs_given, same_agree}
use Rattle.am_machine.proofs.Tokens.Catatonic.{closed_agree}
use Rattle.am_machine.proofs.Tokens.Deliver.{taken_agree}
use Rattle.am_machine.proofs.Tokens.Acts.{goes_agree, ends_agree}
use Rattle.am_machine.proofs.Tokens.Walks.{AgreesBy, walkers}
use Rattle.am_machine.proofs.Attachments.Changes.{GivenBy, given_walkers}
use Rattle.am_machine.proofs.Tour.Walks.{AnyPath, Both, both}
use Rattle.am_machine.proofs.Tour.Events as tours
use Rattle.am_machine.proofs.Tour.Events.{AnyJob, with_half, going, IsNext, IsTaken, any_event}

record Keeps (s : State) (shown : List Obs) (t : State) : Type 0 where
  keeps : AreNumbered s.kernel.waits.tokens s.kernel.waits.last_token s.daemon.jobs → NumbersAreAllocated s.kernel s.daemon → ArePlanned s.daemon.jobs → TokensAgree s.kernel s.daemon.jobs → TokensAgree t.kernel t.daemon.jobs

-- nothing changes of tokens, packets and attachments
same : (s : State) (shown : List Obs) (k : KernelState) → SameTokens s.kernel k → Keeps s shown (with_half k s)
same s shown k made = record { keeps = λ n given planned h. same_agree s.kernel k s.daemon made given h }

-- ---- the daemon takes a packet, and its jobs go on

takes : (s : State) (token : ℕ) (row : QueuedRow) → IsTaken s token row → Keeps s (deliveries.takes s row).seen (deliveries.takes s row).state
takes s token row taken = record {
  keeps = λ n given planned h.
      let p = all_found (IsInPipe s.kernel s.daemon.jobs) (λ (r : QueuedRow). r.token == token) s.kernel.queue row h.in_pipe taken.queued in
      taken_agree s.kernel s.daemon.jobs row (job_for row.attach row.packet s.daemon) (record { token = p.numbered; attach = refl; trigger = refl }) p h;
}

goes : (s : State) (shown : List Obs) (row : JobPlan) (outcome : job.Outcome) (k : KernelState) (a : Act) → IsNext AnyJob s row a → acknowledges a ≡ false → SameTokens s.kernel k → Keeps s shown (going row outcome k s)
goes s shown row outcome k a i other made = record {
  keeps = λ n given planned h.
      let its = all_found IsPlanned (λ (r : JobPlan). r.token == row.token) s.daemon.jobs row planned i.is in
      goes_agree k s.daemon.jobs row.token outcome row i.is (goes_after row.plan outcome a its.last i.next other) (same_agree s.kernel k s.daemon made given h);
}

-- it acknowledges, and ends
replies : (s : State) (row : JobPlan) (status : Status) → IsNext AnyJob s row (act.Reply status) → Keeps s (answering row.token status s.kernel) (going row came.Done (acknowledged row.token status s.kernel) s)
replies s row status i = record {
  keeps = λ n given planned h.
      let its = all_found IsPlanned (λ (r : JobPlan). r.token == row.token) s.daemon.jobs row planned i.is in
      ends_agree s.kernel s.daemon.jobs row.token status came.Done row i.is (ends_after row.plan status its.last i.next) h;
}

-- ---- events

changes : tours.Keeps AnyPath AnyJob (Both GivenBy AgreesBy) Keeps
changes = record {
  same = λ s. record { keeps = λ n given planned h. h };
  attached = λ s path point at is fresh may. record {
    keeps = λ n given planned h.
        let timeout = line_timeout s.daemon point.entry in
        stays_agree s.kernel (attached_at point.direct timeout s.kernel at) s.daemon.jobs
        (record { tokens = λ t. refl; queue = refl; grows = λ fs. attached_grows point.direct timeout s.kernel at fs given.autofs given.rise }) (jobs_given s.kernel s.daemon given) h;
  };
  mounted = λ s ns path at is may. same s _ _ (record { tokens = refl; queue = refl; attached = refl; autofs = refl });
  bound = λ s source at may. same s _ _ (record { tokens = refl; queue = refl; attached = refl; autofs = refl });
  unmounted = λ s at may. same s _ _ (record { tokens = refl; queue = refl; attached = refl; autofs = refl });
  changed = λ s change at may. same s _ _ (record { tokens = refl; queue = refl; attached = refl; autofs = refl });
  copied = λ s ns form may. same s _ _ (record { tokens = refl; queue = refl; attached = refl; autofs = refl });
  dropped = λ s ns may. same s _ _ (record { tokens = refl; queue = refl; attached = refl; autofs = refl });
  walks = both AnyPath GivenBy AgreesBy given_walkers walkers;
  walked = λ s shown k moment agrees. record { keeps = λ n given planned h. same_agree k (with_latest moment k) s.daemon (record { tokens = refl; queue = refl; attached = refl; autofs = refl }) (agrees.0 s.daemon given) (agrees.1 s.daemon n given h) };
  left = λ s walker mount is. same s _ _ (record { tokens = refl; queue = refl; attached = refl; autofs = refl });
  made_catatonic = λ s fs. record { keeps = λ n given planned h. closed_agree s.kernel s.daemon.jobs fs n.rise h };
  timed = λ s fs timeout. record {
    keeps = λ n given planned h.
        stays_agree s.kernel (with_timeout fs timeout s.kernel) s.daemon.jobs (record { tokens = λ t. refl; queue = refl; grows = λ other. timeout_grows s.kernel fs timeout other }) (jobs_given s.kernel s.daemon given) h;
  };
  died = λ s. record { keeps = λ n given planned h. h };
  reattached = λ s fs row is dead. record {
    keeps = λ n given planned h.
        stays_agree s.kernel (with_pipe fs s.kernel) s.daemon.jobs (record { tokens = λ t. refl; queue = refl; grows = λ other. pipe_grows s.kernel fs other dead }) (jobs_given s.kernel s.daemon given) h;
  };
  delivered = takes;
  rested = λ s row a outcome i r. goes s _ row _ s.kernel a i r.acknowledges (record { tokens = refl; queue = refl; attached = refl; autofs = refl });
  directory_made = λ s row trigger i. goes s _ row _ _ _ i refl (record { tokens = refl; queue = refl; attached = refl; autofs = refl });
  directory_gone = λ s row trigger i. goes s _ row _ _ _ i refl (record { tokens = refl; queue = refl; attached = refl; autofs = refl });
  mounted_on = λ s row trigger entry i may. goes s _ row _ _ _ i refl (record { tokens = refl; queue = refl; attached = refl; autofs = refl });
  unmounted_on = λ s row trigger mount i u. goes s _ row _ _ _ i refl (record { tokens = refl; queue = refl; attached = refl; autofs = refl });
  recorded = λ s row trigger entry i held. goes s _ row _ _ _ i refl (record { tokens = refl; queue = refl; attached = refl; autofs = refl });
  replied = λ s row status its i is. replies s row status i;
}

pub outcome_tokens : (s : State) (event : Event) → AreNumbered s.kernel.waits.tokens s.kernel.waits.last_token s.daemon.jobs → NumbersAreAllocated s.kernel s.daemon → ArePlanned s.daemon.jobs → TokensAgree s.kernel s.daemon.jobs →
    TokensAgree (outcome_of s event).state.kernel (outcome_of s event).state.daemon.jobs
outcome_tokens s event n given planned h = (tours.outcome AnyPath AnyJob (Both GivenBy AgreesBy) Keeps changes s event (any_event s event)).well.keeps n given planned h

pub initial_tokens : (opening : Setup) → TokensAgree (initial_state_of opening).kernel (initial_state_of opening).daemon.jobs
initial_tokens opening = record {
  once = λ a b x y p q same. absurd cc;
  packets = tt;
  numbers = tt;
  open_tokens = λ t row e. absurd cc;
  in_pipe = All-nil _;
  at_work = All-nil _;
}
