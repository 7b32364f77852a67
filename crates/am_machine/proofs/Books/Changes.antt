-- Each change leaves the daemon's book right, and so does each event.
use Rattle.std.proofs.Common.{◌≡◌, ◌∙◌, ℕ, ◌≤◌, ◌==◌, List, map, Some, None, refl, ap, arith}
use Rattle.std.proofs.lemmas.List.Elements.{All-nil}
use Rattle.am_names.specs.{TokenKind, WaitRow}
use Rattle.am_names.specs.declared.row.TokenKind.TheVariants.{Missing, Expire}
use Rattle.am_state.specs.{HeldRow, Obs}
use Rattle.am_kernel.specs.{KernelState, with_latest, attach_of, without_packet}
use Rattle.am_kernel.specs.Resumes as resumes
use Rattle.am_job.specs.declared.act.Outcome as job
use Rattle.am_job.specs.{next_of}
use Rattle.am_daemon.specs.{JobPlan, line_timeout, job_of, taken_up, writes, finished}
use Rattle.am_machine.specs.{Event, Setup, initial_state_of, outcome_of, after, NumbersAreAllocated, TokensAgree, IsPlanned, ArePlanned, AreDifferent, BookAgrees}
use Rattle.am_machine.specs.State.{State}
use Rattle.am_machine.proofs.Lists.Different.{all_found}
use Rattle.am_machine.proofs.Books.Unchanged.{Narrows, narrowed, same_attachments, narrows_itself, one_after_another, narrows_latest, timeout_narrows, closed_narrows}
use Rattle.am_machine.proofs.Books.Acts.{IsJob, goes_on_kept, goes_on_written}
use Rattle.am_machine.proofs.Books.Deliver.{may_take, taken_kept}
use Rattle.am_machine.proofs.Books.Attach.{attached_kept, dead_kept, reattached_kept}
use Rattle.am_machine.proofs.Tour.Walks as tour
use Rattle.am_machine.proofs.Tour.Walks.{AnyPath}
use Rattle.am_machine.proofs.Tour.Events as tours
use Rattle.am_machine.proofs.Tour.Events.{with_half, going, IsNext, any_event, AnyJob}

-- ---- what walkers do

abbrev pub NarrowsBy : KernelState → List Obs → KernelState → Type 0
NarrowsBy k shown made = Narrows k made

-- a wait that is collected
freed_narrows : (kind : TokenKind) (k : KernelState) (wait : WaitRow) (moment : ℕ) → Narrows k (resumes.wait_collected_from kind wait moment k)
freed_narrows Missing k wait moment = same_attachments k (resumes.wait_collected_from Missing wait moment k) (λ fs. refl) (omega arith)
freed_narrows Expire k wait moment = same_attachments k (resumes.wait_collected_from Expire wait moment k) (λ fs. refl) (omega arith)

pub walks : tour.Keeps AnyPath NarrowsBy
walks = record {
  nothing = narrows_itself;
  arrived = λ k attempt at passed w. same_attachments k _ (λ fs. refl) (omega arith);
  joined = λ k attempt token passed w. same_attachments k _ (λ fs. refl) (omega arith);
  notified = λ k attempt trigger attach passed w is. same_attachments k _ (λ fs. refl) (omega arith);
  expiring = λ k walker fs moment immediate trigger attach x. same_attachments k _ (λ fs. refl) (omega arith);
  made_catatonic = closed_narrows;
  collected = λ k kind wait status moment shown made g later. one_after_another k _ made (freed_narrows kind k wait moment) later;
}

-- ---- events

-- where the book is right, and what else it rests on, it is right afterwards
record BookStays (s : State) (shown : List Obs) (t : State) : Type 0 where
  book : NumbersAreAllocated s.kernel s.daemon → ArePlanned s.daemon.jobs → AreDifferent (map (λ (r : JobPlan). r.token) s.daemon.jobs) → BookAgrees s.kernel s.daemon → BookAgrees t.kernel t.daemon

-- the kernel's half changes, and no file system is served that wasn't
narrows : (s : State) (shown : List Obs) (k : KernelState) → Narrows s.kernel k → BookStays s shown (with_half k s)
narrows s shown k n = record { book = λ given planned differ h. narrowed s.kernel k s.daemon n h }

-- nor is a number of an attachment taken back
plain : (s : State) (shown : List Obs) (k : KernelState) → ((fs : ℕ) → attach_of k fs ≡ attach_of s.kernel fs) → s.kernel.last_fs ≤ k.last_fs → BookStays s shown (with_half k s)
plain s shown k same last = narrows s shown k (same_attachments s.kernel k same last)

pub its_job : (s : State) (row : JobPlan) (is : job_of s.daemon.jobs row.token ≡ Some row) → ArePlanned s.daemon.jobs → AreDifferent (map (λ (r : JobPlan). r.token) s.daemon.jobs) → IsJob s.daemon row
its_job s row is planned differ = record { differ = differ; found = is; planned = all_found IsPlanned (λ (r : JobPlan). r.token == row.token) s.daemon.jobs row planned is }

-- the job goes on by an act that writes nothing
goes : (s : State) (shown : List Obs) (row : JobPlan) (outcome : job.Outcome) (k : KernelState) → job_of s.daemon.jobs row.token ≡ Some row → writes (next_of row.plan) ≡ None → Narrows s.kernel k → BookStays s shown (going row outcome k s)
goes s shown row outcome k is none n = record {
  book = λ given planned differ h. narrowed s.kernel k (finished row.token outcome s.daemon) n (goes_on_kept s.kernel s.daemon row outcome (its_job s row is planned differ) none h);
}

book : tours.Keeps AnyPath AnyJob NarrowsBy BookStays
book = record {
  same = λ s. record { book = λ given planned differ h. h };
  attached = λ s path point at is fresh may. record { book = λ given planned differ h. attached_kept s.kernel s.daemon point.direct (line_timeout s.daemon point.entry) at path given h };
  mounted = λ s ns path at is may. plain s _ _ (λ fs. refl) (omega arith);
  bound = λ s source at may. plain s _ _ (λ fs. refl) (omega arith);
  unmounted = λ s at may. plain s _ _ (λ fs. refl) (omega arith);
  changed = λ s change at may. plain s _ _ (λ fs. refl) (omega arith);
  copied = λ s ns form may. plain s _ _ (λ fs. refl) (omega arith);
  dropped = λ s ns may. plain s _ _ (λ fs. refl) (omega arith);
  walks = walks;
  walked = λ s shown k moment n. narrows s shown (with_latest moment k) (narrows_latest s.kernel k moment n);
  left = λ s walker mount is. plain s _ _ (λ fs. refl) (omega arith);
  made_catatonic = λ s fs. narrows s _ _ (closed_narrows s.kernel fs);
  timed = λ s fs timeout. narrows s _ _ (timeout_narrows s.kernel fs timeout);
  died = λ s. record { book = λ given planned differ h. dead_kept s.kernel s.daemon h };
  reattached = λ s fs row is dead. record { book = λ given planned differ h. reattached_kept s.kernel s.daemon fs row is given h };
  delivered = λ s token row taken. record {
    book = λ given planned differ h.
        let made = without_packet row.token s.kernel in
        narrowed s.kernel made (taken_up row.attach row.packet s.daemon) (same_attachments s.kernel made (λ fs. refl) (omega arith))
        (taken_kept s.kernel s.daemon row.attach row.packet (may_take s.daemon row.attach row.packet taken.held taken.free) h);
  };
  rested = λ s row a outcome i r. goes s _ row outcome _ i.is (ap writes i.next ∙ r.writes) (narrows_itself s.kernel);
  directory_made = λ s row trigger i. goes s _ row _ _ i.is (ap writes i.next) (same_attachments s.kernel _ (λ fs. refl) (omega arith));
  directory_gone = λ s row trigger i. goes s _ row _ _ i.is (ap writes i.next) (same_attachments s.kernel _ (λ fs. refl) (omega arith));
  mounted_on = λ s row trigger entry i may. goes s _ row _ _ i.is (ap writes i.next) (same_attachments s.kernel _ (λ fs. refl) (omega arith));
  unmounted_on = λ s row trigger mount i u. goes s _ row _ _ i.is (ap writes i.next) (same_attachments s.kernel _ (λ fs. refl) (omega arith));
  recorded = λ s row trigger entry i held. record {
    book = λ given planned differ h. goes_on_written s.kernel s.daemon row _ trigger entry (its_job s row i.is planned differ) (record { next = i.next; holds = held }) h;
  };
  replied = λ s row status its i is. goes s _ row _ _ i.is (ap writes i.next) (same_attachments s.kernel _ (λ fs. refl) (omega arith));
}

-- an outcome leaves the book right
pub outcome_book : (s : State) (event : Event) → NumbersAreAllocated s.kernel s.daemon → TokensAgree s.kernel s.daemon.jobs → ArePlanned s.daemon.jobs → BookAgrees s.kernel s.daemon → BookAgrees (after s (outcome_of s event)).kernel (after s (outcome_of s event)).daemon
outcome_book s event given tokens planned h = (tours.outcome AnyPath AnyJob NarrowsBy BookStays book s event (any_event s event)).well.book given planned tokens.numbers h

-- in the initial world nothing is served, and nothing is written down
pub initial_book : (opening : Setup) → BookAgrees (initial_state_of opening).kernel (initial_state_of opening).daemon
initial_book opening = record {
  pending = λ fs attach s g same token. let held : None ≡ Some attach = s.held in absurd cc;
  held = tt;
  given = All-nil (λ (row : HeldRow). row.fs ≤ (initial_state_of opening).kernel.last_fs);
}
