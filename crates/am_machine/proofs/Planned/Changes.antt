-- Each change keeps what is planned. It needs nothing of the other parts.
use Rattle.std.proofs.Common.{◌≡◌, ℕ, List, refl, sym, subst}
use Rattle.std.proofs.lemmas.List.Elements.{All-nil, All-push}
use Rattle.am_state.specs.{QueuedRow, Obs}
use Rattle.am_wire.specs.{token_kind}
use Rattle.am_kernel.specs.{KernelState}
use Rattle.am_job.specs.{Outcome}
use Rattle.am_job.proofs.PlanLemmas.{plan_acknowledges, plan_lawful}
use Rattle.am_daemon.specs.{DaemonState, JobPlan, trigger_of, mounted_for, entry_of, job_for}
use Rattle.am_machine.specs.{Event, Setup, initial_state_of, outcome_of, IsPlanned, ArePlanned}
use Rattle.am_machine.specs.State.{State}
use Rattle.am_machine.proofs.Planned.Rests.{plan_rest}
use Rattle.am_machine.proofs.Planned.Acts.{finished_planned}
use Rattle.am_machine.proofs.Tour.Walks.{AnyPath, AnyMove, any_move}
use Rattle.am_machine.proofs.Tour.Events as tours
use Rattle.am_machine.proofs.Tour.Events.{AnyJob, going, any_event}

record Keeps (s : State) (shown : List Obs) (t : State) : Type 0 where
  keeps : ArePlanned s.daemon.jobs → ArePlanned t.daemon.jobs

-- the jobs stay
stays : (s t : State) (shown : List Obs) → t.daemon.jobs ≡ s.daemon.jobs → Keeps s shown t
stays s t shown jobs = record { keeps = λ h. subst ArePlanned (sym jobs) h }

-- one of them goes on, or ends
goes : (s : State) (shown : List Obs) (row : JobPlan) (outcome : Outcome) (k : KernelState) → Keeps s shown (going row outcome k s)
goes s shown row outcome k = record { keeps = λ h. finished_planned row.token outcome s.daemon.jobs h }

job_planned : (attach : ℕ) (row : QueuedRow) (d : DaemonState) → IsPlanned (job_for attach row.packet d)
job_planned attach row d =
    let g = trigger_of row.packet in
    record {
      last = plan_acknowledges (token_kind row.packet.kind) g (mounted_for d row.packet) (entry_of d g);
      claims_right = (plan_lawful (token_kind row.packet.kind) g (mounted_for d row.packet) (entry_of d g)).claims_right;
      rest = plan_rest (token_kind row.packet.kind) g (mounted_for d row.packet) (entry_of d g);
    }

changes : tours.Keeps AnyPath AnyJob AnyMove Keeps
changes = record {
  same = λ s. stays s s _ refl;
  attached = λ s path point at is fresh may. stays s _ _ refl;
  mounted = λ s ns path at is may. stays s _ _ refl;
  bound = λ s source at may. stays s _ _ refl;
  unmounted = λ s at may. stays s _ _ refl;
  changed = λ s change at may. stays s _ _ refl;
  copied = λ s ns form may. stays s _ _ refl;
  dropped = λ s ns may. stays s _ _ refl;
  walks = any_move AnyPath;
  walked = λ s shown k moment h. stays s _ _ refl;
  left = λ s walker mount is. stays s _ _ refl;
  made_catatonic = λ s fs. stays s _ _ refl;
  timed = λ s fs timeout. stays s _ _ refl;
  died = λ s. stays s _ _ refl;
  reattached = λ s fs row is dead. stays s _ _ refl;
  delivered = λ s token row taken. record { keeps = λ h. All-push IsPlanned s.daemon.jobs (job_for row.attach row.packet s.daemon) h (job_planned row.attach row s.daemon) };
  rested = λ s row a outcome i r. goes s _ row _ _;
  directory_made = λ s row trigger i. goes s _ row _ _;
  directory_gone = λ s row trigger i. goes s _ row _ _;
  mounted_on = λ s row trigger entry i may. goes s _ row _ _;
  unmounted_on = λ s row trigger mount i u. goes s _ row _ _;
  recorded = λ s row trigger entry i held. goes s _ row _ _;
  replied = λ s row status its i is. goes s _ row _ _;
}

pub outcome_planned : (s : State) (event : Event) → ArePlanned s.daemon.jobs → ArePlanned (outcome_of s event).state.daemon.jobs
outcome_planned s event h = (tours.outcome AnyPath AnyJob AnyMove Keeps changes s event (any_event s event)).well.keeps h

pub initial_planned : (opening : Setup) → ArePlanned (initial_state_of opening).daemon.jobs
initial_planned opening = All-nil _
