-- Each change leaves failures only where nothing is mounted, and so does each event: where something is
-- mounted on a trigger, no failure is kept of it, or a mount is asked for.
use Rattle.std.proofs.Common.{◌≡◌, ◌∙◌, ◌⊎◌, ℕ, ◌+◌, ◌≤◌, ◌==◌, true, false, List, [], ◌∷◌, Some, None, refl, sym, ap, subst, inl, inr, arith}
use Rattle.std.specs.Prelude.{is_some, not}
use Rattle.std.proofs.lemmas.List.Elements.{All-nil, All-head, All-tail}
use Rattle.am_names.specs.{same_trigger, OpenToken, Status, RiseBy}
use Rattle.am_names.specs.declared.trigger.Trigger.{Trigger}
use Rattle.am_names.specs.declared.trigger.Status.TheVariants.{Ready, Fail}
use Rattle.am_names.specs.declared.row.TokenKind.TheVariants.{Missing}
use Rattle.am_names.proofs.SameTriggers.{equal_by_same_trigger}
use Rattle.am_names.proofs.Basics.{true_where_not_false, some_injective, value_where_some}
use Rattle.am_map.specs.EntryText.{EntryText}
use Rattle.am_state.specs.{QueuedRow, Obs}
use Rattle.am_wait.specs.{token_of}
use Rattle.am_kernel.specs.{KernelState, with_latest, attach_of, is_current, mounted_on, mount_on_refusal, with_mount_on, gone_with, without_mounts, with_pipe, without_packet, queued_of, acknowledged}
use Rattle.am_job.specs.{Act}
use Rattle.am_job.specs.declared.act.Act.TheVariants as act
use Rattle.am_job.specs.declared.act.Outcome as job
use Rattle.am_job.specs.declared.act.Outcome.TheVariants as came
use Rattle.am_daemon.specs.{JobPlan, job_of, writes, finished}
use Rattle.am_machine.specs.{Event, Answer, Setup, initial_state_of, Step, Run, after, outcome_of, HasPaths, HavePaths, WalksFit, IsInPipe, IsAtWork, PlacesAgree, IsConsistent, FailuresAgree, SuitsItsToken}
use Rattle.am_machine.specs.State.{State}
use Rattle.am_machine.specs.Events.Deliveries as deliveries
use Rattle.am_machine.proofs.Agreement.Tokens.{untaken}
use Rattle.am_machine.proofs.Tests.{test_passed}
use Rattle.am_machine.proofs.Lists.Different.{all_found}
use Rattle.am_machine.proofs.Attachments.Current.{attach_from_current}
use Rattle.am_machine.proofs.Attachments.Grows.{pipe_grows}
use Rattle.am_machine.proofs.Tokens.Unchanged.{was_current}
use Rattle.am_machine.proofs.Tokens.Notify.{AreNumbered, numbered}
use Rattle.am_machine.proofs.Tokens.Catatonic.{token_number}
use Rattle.am_machine.proofs.Books.Acts.{IsJob}
use Rattle.am_machine.proofs.Books.Deliver.{may_take}
use Rattle.am_machine.proofs.Books.Unchanged.{Narrows, same_attachments, narrows_latest, timeout_narrows, closed_narrows}
use Rattle.am_machine.proofs.Books.Changes as books
use Rattle.am_machine.proofs.Places.Changes as places
use Rattle.am_machine.proofs.Places.Unchanged.{SamePlaces, keeps_latest}
use Rattle.am_machine.proofs.TriggerMounts.Jobs.{mounts, unmounts}
use Rattle.am_machine.proofs.TriggerMounts.Unchanged.{Still, kept_still, attached_autofs}
use Rattle.am_machine.proofs.TriggerMounts.Mounts.{mounted_others}
use Rattle.am_machine.proofs.TriggerMounts.Umounts.{unmounted_others, unmounted_here}
use Rattle.am_machine.proofs.TriggerMounts.Administrator.{copied_still, dropped_still}
use Rattle.am_machine.proofs.TriggerMounts.Reattach.{pipe_still}
use Rattle.am_machine.proofs.TriggerMounts.Changes as stands
use Rattle.am_machine.proofs.Failures.Attach.{attached_failures}
use Rattle.am_machine.proofs.Failures.Acts.{mounting_is_missing}
use Rattle.am_machine.proofs.Failures.Unchanged.{GoesOn, goes_itself, stays_goes, closed_goes, piped_goes, latest_goes, GoesBy, walkers, acknowledged_mended, failures_still}
use Rattle.am_machine.proofs.Failures.Jobs.{failures_go_on, never_next, free_once_written, failures_moved, asks_for, one_job, failures_taken}
use Rattle.am_machine.proofs.Walks.Runs.{step_named}
use Rattle.am_machine.proofs.Tour.Walks.{AnyPath, Both, both}
use Rattle.am_machine.proofs.Tour.Events as tours
use Rattle.am_machine.proofs.Tour.Events.{with_half, going, IsNext, IsTaken, IsUnmounted, any_event, AnyJob}
use Rattle.am_machine.proofs.Records.Tokens.{answered_later}
use Rattle.am_machine.proofs.Consistent.{step_consistent}

-- what the machine keeps beside
pub record Holds (s : State) : Type 0 where
  pub consistent : IsConsistent s
  pub walks : WalksFit s.kernel

record StaysMended (s : State) (shown : List Obs) (t : State) : Type 0 where
  fails : Holds s → FailuresAgree s.kernel s.daemon → FailuresAgree t.kernel t.daemon

numbers : (s : State) → Holds s → AreNumbered s.kernel.waits.tokens s.kernel.waits.last_token s.daemon.jobs
numbers s w = numbered s.kernel s.daemon.jobs s.trace w.consistent.traced.fits

its_job : (s : State) (row : JobPlan) → job_of s.daemon.jobs row.token ≡ Some row → Holds s → IsJob s.daemon row
its_job s row is w = books.its_job s row is w.consistent.agreed.planned w.consistent.agreed.tokens.numbers

-- ---- the kernel's half changes

agrees_still : (s : State) (k : KernelState) → Narrows s.kernel k → Still s.kernel k → GoesOn s.kernel k → Holds s → FailuresAgree s.kernel s.daemon → FailuresAgree k s.daemon
agrees_still s k n still g w h =
    failures_still s.kernel k s.daemon w.consistent.agreed.given.jobs (λ fs attach least e. n.current fs attach e) still g.later (λ t a mount is on. g.mended t) h

still : (s : State) (shown : List Obs) (k : KernelState) → Narrows s.kernel k → (PlacesAgree s.kernel → Still s.kernel k) → (RiseBy (λ (r : OpenToken). r.token) 0 s.kernel.waits.tokens → GoesOn s.kernel k) → StaysMended s shown (with_half k s)
still s shown k n keeps goes = record { fails = λ w h. agrees_still s k n (keeps w.consistent.agreed.places) (goes (numbers s w).rise) w h }

-- neither mounts nor locations change
quietly : (s : State) (shown : List Obs) (k : KernelState) → Narrows s.kernel k → SamePlaces s.kernel k → (RiseBy (λ (r : OpenToken). r.token) 0 s.kernel.waits.tokens → GoesOn s.kernel k) → StaysMended s shown (with_half k s)
quietly s shown k n keeps goes = still s shown k n (λ p. kept_still s.kernel k keeps) goes

-- ---- a job goes on

-- by an act that mounts and unmounts nothing, and writes nothing
plainly : (s : State) (shown : List Obs) (row : JobPlan) (outcome : job.Outcome) (k : KernelState) (a : Act) → IsNext AnyJob s row a → writes (Some a) ≡ None → SamePlaces s.kernel k → GoesOn s.kernel k → ((fs : ℕ) → attach_of k fs ≡ attach_of s.kernel fs) → s.kernel.last_fs ≤ k.last_fs → StaysMended s shown (going row outcome k s)
plainly s shown row outcome k a i none keeps g attached last = record {
  fails = λ w h.
      let j = its_job s row i.is w in
      failures_go_on k s.daemon row outcome j (never_next k k s.daemon row outcome j (ap writes i.next ∙ none))
      (agrees_still s k (same_attachments s.kernel k attached last) (kept_still s.kernel k keeps) g w h);
}

-- the job's attachment is current
its_current : (s : State) (row : JobPlan) (trigger : Trigger) → Holds s → trigger ≡ row.trigger → is_current s.kernel trigger.fs row.attach ≡ true → attach_of s.kernel row.trigger.fs ≡ Some row.attach
its_current s row trigger w on is =
    subst (λ (t : Trigger). attach_of s.kernel t.fs ≡ Some row.attach) on (attach_from_current s.kernel trigger.fs row.attach w.consistent.agreed.given.rise is)

mounts_on : (s : State) (row : JobPlan) (trigger : Trigger) (entry : EntryText) → IsNext AnyJob s row (act.Mount trigger entry) → mount_on_refusal s.kernel row.attach trigger ≡ None → Holds s → FailuresAgree s.kernel s.daemon →
    FailuresAgree (with_mount_on trigger s.kernel) (finished row.token (came.Made (s.kernel.table.last_mount + 1)) s.daemon)
mounts_on s row trigger entry i may w h =
    let k = s.kernel in
    let j = its_job s row i.is w in
    let agreed = w.consistent.agreed in
    let first = test_passed (not (is_current k trigger.fs row.attach)) _ _ may in
    let p = mounts row.trigger trigger entry (k.table.last_mount + 1) row.plan i.next j.planned.rest j.planned.claims_right in
    let current = its_current s row trigger w p.on (true_where_not_false (is_current k trigger.fs row.attach) first.0) in
    let b = attached_autofs k trigger.fs row.attach (subst (λ (t : Trigger). attach_of k t.fs ≡ Some row.attach) (sym p.on) current) in
    let its = all_found (SuitsItsToken k.waits) (λ (r : JobPlan). r.token == row.token) s.daemon.jobs row h.suited i.is in
    failures_moved k (with_mount_on trigger k) s.daemon row (came.Made (k.table.last_mount + 1)) j (ap writes i.next) (record {
      waits = refl;
      failures = refl;
      triggers = refl;
      attached = λ fs. refl;
      others = λ g a is apart. mounted_others k agreed.places trigger b.0 b.1 g a is (subst (λ (t : Trigger). same_trigger t g ≡ false) (sym p.on) apart);
      free = λ other new differs there same token error now is_open missing next.
          let one = one_job k s.daemon agreed.tokens w.walks other row new i.is current there now same in
          let no : true ≡ false = sym one ∙ differs in
          absurd cc;
      mended = λ g mount same on.
          let has = asks_for k s.daemon agreed.tokens w.walks row.token row i.is current in
          inr (record {
            token = row.token;
            row = has.0.token;
            is_open = has.0.is_open;
            asks = sym has.1 ∙ equal_by_same_trigger row.trigger g same;
            kind = mounting_is_missing row.plan trigger entry has.0.token.kind i.next (its.acts has.0.token has.0.is_open);
          });
    }) (attached_autofs k) h

unmounts_from : (s : State) (row : JobPlan) (trigger : Trigger) (m : ℕ) → IsNext AnyJob s row (act.Umount trigger) → IsUnmounted s row trigger m → Holds s → FailuresAgree s.kernel s.daemon →
    FailuresAgree (without_mounts (gone_with s.kernel (Some m)) s.kernel) (finished row.token came.Done s.daemon)
unmounts_from s row trigger m i u w h =
    let k = s.kernel in
    let j = its_job s row i.is w in
    let agreed = w.consistent.agreed in
    let made = without_mounts (gone_with k (Some m)) k in
    let p = unmounts row.trigger trigger row.plan i.next j.planned.rest j.planned.claims_right in
    let current = its_current s row trigger w p.on u.current in
    let b = attached_autofs k trigger.fs row.attach (subst (λ (t : Trigger). attach_of k t.fs ≡ Some row.attach) (sym p.on) current) in
    let free : mounted_on made row.trigger ≡ None = ap (mounted_on made) (sym p.on) ∙ unmounted_here k agreed.places trigger b.0 b.1 m u.mounted in
    failures_moved k made s.daemon row came.Done j (ap writes i.next) (record {
      waits = refl;
      failures = refl;
      triggers = refl;
      attached = λ fs. refl;
      others = λ g a is apart. unmounted_others k agreed.places trigger b.0 b.1 m u.mounted g a is (subst (λ (t : Trigger). same_trigger t g ≡ false) (sym p.on) apart);
      free = λ other new differs there same token error now is_open missing next. ap (mounted_on made) (sym (equal_by_same_trigger row.trigger new.trigger same)) ∙ free;
      mended = λ g mount same on.
          let no : None ≡ Some mount = sym free ∙ ap (mounted_on made) (equal_by_same_trigger row.trigger g same) ∙ on in
          absurd cc;
    }) (attached_autofs k) h

-- by its acknowledgement
acknowledges : (s : State) (row : JobPlan) (status : Status) (its : OpenToken) → IsNext AnyJob s row (act.Reply status) → token_of s.kernel.waits.tokens row.token ≡ Some its → Holds s → FailuresAgree s.kernel s.daemon →
    FailuresAgree (acknowledged row.token status s.kernel) (finished row.token came.Done s.daemon)
acknowledges s row status its i is w h =
    let k = s.kernel in
    let j = its_job s row i.is w in
    let made = acknowledged row.token status k in
    failures_go_on made s.daemon row came.Done j (never_next made made s.daemon row came.Done j (ap writes i.next))
    (failures_still k made s.daemon w.consistent.agreed.given.jobs (λ fs attach least e. e) (kept_still k made (record { table = refl; last_fs = refl; sites = λ fs. refl })) (answered_later row.token status k.waits)
    (λ g a mount there on. acknowledged_mended k row.token its is g status (λ missing. by status refl missing g mount on)) h)
  where
    current : attach_of s.kernel row.trigger.fs ≡ Some row.attach
    current = by_work (w.consistent.agreed.tokens.open_tokens row.token its is)
      where
        by_work : (is_some (queued_of s.kernel.queue row.token) ≡ true) ⊎ IsAtWork s.kernel s.daemon.jobs its → attach_of s.kernel row.trigger.fs ≡ Some row.attach
        by_work (inl queued) =
            let q = value_where_some (queued_of s.kernel.queue row.token) queued in
            let none : job_of s.daemon.jobs row.token ≡ None = untaken s.kernel s.daemon w.consistent.agreed.tokens row.token q.0 q.1 in
            let no : None ≡ Some row = sym none ∙ i.is in
            absurd cc
        by_work (inr work) =
            let number : its.token ≡ row.token = token_number s.kernel.waits.tokens row.token its is in
            let same : work.job ≡ row = some_injective (sym work.is_job ∙ ap (job_of s.daemon.jobs) number ∙ i.is) in
            let fs : row.trigger.fs ≡ its.trigger.fs = ap (λ (r : JobPlan). r.trigger.fs) (sym same) ∙ work.fs in
            ap (attach_of s.kernel) fs ∙ work.current ∙ ap (λ (r : JobPlan). Some r.attach) same

    on_its_trigger : row.trigger ≡ its.trigger
    on_its_trigger =
        let has = asks_for s.kernel s.daemon w.consistent.agreed.tokens w.walks row.token row i.is current in
        let same : has.0.token ≡ its = some_injective (sym has.0.is_open ∙ is) in
        has.1 ∙ ap (λ (r : OpenToken). r.trigger) same

    by : (told : Status) → status ≡ told → its.kind ≡ Missing → (g : Trigger) (mount : ℕ) → mounted_on s.kernel g ≡ Some mount → (status ≡ Ready) ⊎ (its.trigger ≡ g → ⊥)
    by Ready e missing g mount on = inl e
    by (Fail error) e missing g mount on = inr (λ same.
        let free : mounted_on s.kernel row.trigger ≡ None = h.free row.token row its error i.is current is missing (i.next ∙ ap (λ (t : Status). Some (act.Reply t)) e) in
        let no : None ≡ Some mount = sym free ∙ ap (mounted_on s.kernel) (on_its_trigger ∙ same) ∙ on in
        absurd cc)

takes : (s : State) (token : ℕ) (row : QueuedRow) → IsTaken s token row → StaysMended s (deliveries.takes s row).seen (deliveries.takes s row).state
takes s token row taken = record {
  fails = λ w h.
      let k = s.kernel in
      let made = without_packet row.token k in
      let agreed = w.consistent.agreed in
      let p = all_found (IsInPipe k s.daemon.jobs) (λ (r : QueuedRow). r.token == token) k.queue row agreed.tokens.in_pipe taken.queued in
      let m = may_take s.daemon row.attach row.packet taken.held taken.free in
      let first = failures_taken k s.daemon row p (numbers s w) m.idle h in
      record { suited = first.suited; free = first.free; mended = first.mended };
}

-- ---- events

mended : tours.Keeps AnyPath AnyJob (Both (Both books.NarrowsBy places.KeepsBy) GoesBy) StaysMended
mended = record {
  same = λ s. record { fails = λ w h. h };
  attached = λ s path point at is fresh may. record { fails = λ w h. attached_failures s.kernel s.daemon w.consistent.agreed.given w.consistent.agreed.places path point at is may h };
  mounted = λ s ns path at is may. still s _ _ (same_attachments s.kernel _ (λ fs. refl) (omega arith)) (stands.mount_at s.kernel at may) (λ rise. stays_goes s.kernel _ (λ t. refl) refl refl);
  bound = λ s source at may. still s _ _ (same_attachments s.kernel _ (λ fs. refl) (omega arith)) (stands.bind_to s.kernel source at may) (λ rise. stays_goes s.kernel _ (λ t. refl) refl refl);
  unmounted = λ s at may. still s _ _ (same_attachments s.kernel _ (λ fs. refl) (omega arith)) (stands.umount_at s.kernel at may) (λ rise. stays_goes s.kernel _ (λ t. refl) refl refl);
  changed = λ s change at may. still s _ _ (same_attachments s.kernel _ (λ fs. refl) (omega arith)) (λ p. record { still = λ g a is. refl; rows = λ fs a is m row place e on. e; sites = λ fs. refl }) (λ rise. stays_goes s.kernel _ (λ t. refl) refl refl);
  copied = λ s ns form may. still s _ _ (same_attachments s.kernel _ (λ fs. refl) (omega arith)) (λ p. copied_still s.kernel p ns form) (λ rise. stays_goes s.kernel _ (λ t. refl) refl refl);
  dropped = λ s ns may. still s _ _ (same_attachments s.kernel _ (λ fs. refl) (omega arith)) (λ p. dropped_still s.kernel p ns (places.not_namespace_0 ns (test_passed (ns == 0) _ _ may).0)) (λ rise. stays_goes s.kernel _ (λ t. refl) refl refl);
  walks = both AnyPath (Both books.NarrowsBy places.KeepsBy) GoesBy (both AnyPath books.NarrowsBy places.KeepsBy books.walks places.walks) walkers;
  walked = λ s shown k moment all. quietly s shown (with_latest moment k) (narrows_latest s.kernel k moment all.0.0) (keeps_latest s.kernel k moment all.0.1) (λ rise. latest_goes s.kernel k moment (all.1 rise));
  left = λ s walker mount is. quietly s _ _ (same_attachments s.kernel _ (λ fs. refl) (omega arith)) (record { table = refl; last_fs = refl; sites = λ fs. refl }) (λ rise. stays_goes s.kernel _ (λ t. refl) refl refl);
  made_catatonic = λ s fs. quietly s _ _ (closed_narrows s.kernel fs) (places.closes s.kernel fs) (closed_goes s.kernel fs);
  timed = λ s fs timeout. quietly s _ _ (timeout_narrows s.kernel fs timeout) (record { table = refl; last_fs = refl; sites = λ g. refl }) (λ rise. stays_goes s.kernel _ (λ t. refl) refl refl);
  died = λ s. record { fails = λ w h. record { suited = h.suited; free = h.free; mended = h.mended } };
  reattached = λ s fs row is dead. record {
    fails = λ w h.
        let k = s.kernel in
        let made = with_pipe fs k in
        let g = piped_goes k made fs refl refl in
        let kept = failures_still k made s.daemon w.consistent.agreed.given.jobs (λ other attach least e. was_current k made other attach (pipe_grows k fs other dead) least e) (pipe_still k fs) g.later (λ t a mount there on. g.mended t) h in
        record { suited = kept.suited; free = kept.free; mended = kept.mended };
  };
  delivered = takes;
  rested = λ s row a outcome i r. plainly s _ row outcome s.kernel a i r.writes (record { table = refl; last_fs = refl; sites = λ fs. refl }) (goes_itself s.kernel) (λ fs. refl) (omega arith);
  directory_made = λ s row trigger i. plainly s _ row came.Done _ (act.Mkdir trigger) i refl (record { table = refl; last_fs = refl; sites = λ fs. refl }) (stays_goes s.kernel _ (λ t. refl) refl refl) (λ fs. refl) (omega arith);
  directory_gone = λ s row trigger i. plainly s _ row came.Done _ (act.Rmdir trigger) i refl (record { table = refl; last_fs = refl; sites = λ fs. refl }) (stays_goes s.kernel _ (λ t. refl) refl refl) (λ fs. refl) (omega arith);
  mounted_on = λ s row trigger entry i may. record { fails = λ w h. mounts_on s row trigger entry i may w h };
  unmounted_on = λ s row trigger mount i u. record { fails = λ w h. unmounts_from s row trigger mount i u w h };
  recorded = λ s row trigger entry i held. record {
    fails = λ w h.
        let j = its_job s row i.is w in
        failures_go_on s.kernel s.daemon row came.Done j (free_once_written s.kernel s.daemon row came.Done trigger entry j i.next held w.consistent.agreed.book w.consistent.agreed.stands.at_work h) h;
  };
  replied = λ s row status its i is. record { fails = λ w h. acknowledges s row status its i is w h };
}

-- an outcome leaves it so
pub outcome_mended : (s : State) (event : Event) → Holds s → FailuresAgree s.kernel s.daemon → FailuresAgree (after s (outcome_of s event)).kernel (after s (outcome_of s event)).daemon
outcome_mended s event w h = (tours.outcome AnyPath AnyJob (Both (Both books.NarrowsBy places.KeepsBy) GoesBy) StaysMended mended s event (any_event s event)).well.fails w h

-- nothing has failed in the initial world
pub initial_mended : (opening : Setup) → FailuresAgree (initial_state_of opening).kernel (initial_state_of opening).daemon
initial_mended opening = record {
  suited = All-nil _;
  free = λ job row token error found now is_open missing next. absurd cc;
  mended = λ g a mount is on. absurd cc;
}

-- a step and a run leave it so
pub step_mended : (old : State) (event : Event) (answer : Answer) (shown : List Obs) (new : State) → Step old event answer shown new → Holds old → FailuresAgree old.kernel old.daemon → FailuresAgree new.kernel new.daemon
step_mended old event answer shown new (inl out) w h = subst (λ (s : State). FailuresAgree s.kernel s.daemon) (sym out.same) h
step_mended old event answer shown new (inr comes) w h = subst (λ (s : State). FailuresAgree s.kernel s.daemon) (sym comes.left) (outcome_mended old event w h)

pub step_holds : (old : State) (event : Event) (answer : Answer) (shown : List Obs) (new : State) → Step old event answer shown new → HasPaths event → Holds old → Holds new
step_holds old event answer shown new step along w = record {
  consistent = step_consistent old event answer shown new step w.consistent;
  walks = step_named old event answer shown new step along w.walks;
}

pub run_mended : (old : State) (events : List Event) (answers : List Answer) (new : State) → Run old events answers new → HavePaths events → Holds old → FailuresAgree old.kernel old.daemon → FailuresAgree new.kernel new.daemon
run_mended old [] [] new run along w h = subst (λ (s : State). FailuresAgree s.kernel s.daemon) (sym run) h
run_mended old (event ∷ events) (answer ∷ answers) new run along w h =
    run_mended run.0 events answers new run.3 (All-tail HasPaths event events along)
    (step_holds old event answer run.1 run.0 run.2 (All-head HasPaths event events along) w)
    (step_mended old event answer run.1 run.0 run.2 w h)
run_mended old [] (answer ∷ answers) new run along w h = absurd run
run_mended old (event ∷ events) [] new run along w h = absurd run
