-- Where no failure is told, each act of a job comes.
use Rattle.std.proofs.Common.{◌≡◌, ◌<◌, ℕ, ◌+◌, Bool, true, false, List, [], ◌∷◌, Option, Some, None, refl, sym, ap, subst, inl, inr, ⊎_elim, ◌∙◌}
use Rattle.std.specs.Prelude.{◌==◌, ◌&&◌, ◌||◌, nat_le, not, is_some, is_none, find, if◌then◌else◌}
use Rattle.std.specs.Option.{option_map}
use Rattle.std.specs.List.{All}
use Rattle.std.proofs.lemmas.List.Folds.{list_any-append}
use Rattle.std.proofs.lemmas.List.Elements.{All-cons, All-nil}
use Rattle.am_names.specs.declared.errno.Errno.{Errno}
use Rattle.am_names.specs.declared.errno.Errno.TheVariants as errnos
use Rattle.am_names.specs.declared.fail_no.FailNo.TheVariants.{ENOENT}
use Rattle.am_names.specs.{same_trigger, OpenToken, PipeState, Status, TokenKind, WaitRow}
use Rattle.am_names.specs.declared.trigger.Trigger.{Trigger}
use Rattle.am_names.specs.declared.trigger.Status.TheVariants.{Ready}
use Rattle.am_names.specs.declared.row.TokenKind.TheVariants.{Missing, Expire}
use Rattle.am_names.proofs.SameTriggers.{equal_by_same_trigger, same_trigger_either_way, same_trigger_itself}
use Rattle.am_names.proofs.Basics.{equal_by_test, found_passes, neither_of_or, not_where_false, or_false, some_injective, value_where_some}
use Rattle.am_map.specs.EntryText.{EntryText}
use Rattle.am_wire.specs.{token_kind}
use Rattle.am_state.specs.{QueuedRow, Record, RecordRow}
use Rattle.am_state.specs.declared.daemon_row.Record.TheVariants.{Mounting, Mounted, Unmounting}
use Rattle.am_propagate.specs.MountTable.{MountTable}
use Rattle.am_group.specs.{Receives}
use Rattle.am_propagate.specs.{IsWhole, is_mount, umount_refusal}
use Rattle.am_propagate.specs.Added as added
use Rattle.am_trigger.specs.{Autofs, autofs_of, is_made, Failure, failure_of, FailureRows, place_of, trigger_in}
use Rattle.am_trigger.specs.Rows as triggers
use Rattle.am_wait.specs.{WaitRows, token_of, wait_of, without_token}
use Rattle.am_walk.specs.{next_at}
use Rattle.am_walk.specs.declared.stop.Next.TheVariants as nexts
use Rattle.am_expire.specs.{is_used, mount_of_walker}
use Rattle.am_kernel.specs.{KernelState, WalkRow, attach_of, is_current, is_there, is_there_in, is_trigger_of, location_in, location_of, fs_refusal, mount_on_refusal, mounted_on, new_fs_refusal, or_else, queued_of, retry, moment_of, umount_from_refusal, wait_collected, walk_in, with_mount_on, without_packet, scene_of, settled_by}
use Rattle.am_kernel.specs.DaemonMounts.{umount_from_tests}
use Rattle.am_kernel.specs.State.{greatest_u32}
use Rattle.am_kernel.specs.Requests.{settled}
use Rattle.am_kernel.specs.CallOutcome as kernel
use Rattle.am_kernel.specs.Resumes as resumes
use Rattle.am_job.specs.{Act, Plan, next_of, rest_of, claims, record_of, reply, at_directory, book_and_reply, without_mount, mount_entry, plan_for, unmounting}
use Rattle.am_job.specs.Plans.{followed_by, mounting, missing_plan, expire_plan}
use Rattle.am_job.specs.declared.act.Act.TheVariants as act
use Rattle.am_job.specs.declared.act.Outcome as outcomes
use Rattle.am_job.specs.declared.act.Outcome.TheVariants as came
use Rattle.am_daemon.specs.{JobPlan, job_of, entry_of, mounted_in, mounted_for, is_pending, is_busy, trigger_of, pending_of, knows, holds, walked}
use Rattle.am_daemon.specs.Deliveries.{told}
use Rattle.am_daemon.specs.declared.fault.DaemonFault.TheVariants.{UnknownFs, OldAttach, Busy}
use Rattle.am_machine.specs.declared.event.Event.TheVariants as events
use Rattle.am_machine.specs.declared.answer.Answer.TheVariants as answers
use Rattle.am_machine.specs.State.{State}
use Rattle.am_machine.specs.EventOutcome.{EventOutcome}
use Rattle.am_machine.specs.Events.Acts as acts
use Rattle.am_machine.specs.{Answer, Asked, IsServed, after, goes, has_record_left, outcome_of, refused}
use Rattle.am_machine.proofs.Agreement.Runs.{agrees}
use Rattle.am_machine.proofs.Agreement.Tokens.{in_pipe, queued_number}
use Rattle.am_machine.proofs.Tokens.Catatonic.{token_number}
use Rattle.am_machine.proofs.Attachments.Known.{any_last}
use Rattle.am_machine.proofs.InStep.States.{in_step}
use Rattle.am_machine.proofs.Lists.Different.{all_found}
use Rattle.am_machine.proofs.TriggerMounts.Unchanged.{attached_autofs}
use Rattle.am_progress.specs.{TellsOf, next, AllCome, WalksAgain, CanBePassed, is_to_mount, CanBeMounted, CanTrapAgain, CanBeUnmounted, MountsCanComeAndGo, MountsComeAndGo}
use Rattle.am_progress.proofs.Plans.{IsWholeMount, next_own, no_mount_left, umount_whole}
use Rattle.am_progress.proofs.Triggers.Walks.{IsSite}
use Rattle.am_progress.proofs.Jobs.{its_acts, its_current, its_site, its_token, on_its_token, job_number}
use Rattle.am_progress.proofs.Acts.{LeavesKernel, directory_fine}
use Rattle.am_progress.proofs.Tokens.{Served, served_acts, its_act, act_goes, answers_all, Takes, takes_packet}
use Rattle.am_progress.proofs.Packets.{packet_held}
use Rattle.am_progress.proofs.Walkers.{wait_number}
use Rattle.am_progress.proofs.Traps.{passes_copy, passes_here, trigger_by_cases}
use Rattle.am_progress.proofs.Through.{ComesThere, IsOpenOn, Leaves, comes_nothing, comes_there, find_kept}
use Rattle.am_progress.proofs.Waiters.{walks_past}
use Rattle.am_progress.proofs.Expiries.{Wrote, act_kernel, record_next, record_is_written, reply_next, reply_waits, reply_kernel, reply_book, reply_world, reply_served, off_by_cases, trap_again, stands_there, good_before}
use Rattle.am_progress.proofs.Worlds.{IsWorld, after_runs}

-- ---- an act, and what is answered

act_is : (s : State) (token : ℕ) (row : JobPlan) (a : Act) → job_of s.daemon.jobs token ≡ Some row → next_of row.plan ≡ Some a → outcome_of s (events.Act token None) ≡ acts.acted (Some a) s row None
act_is s token row a is e = ap (λ (o : Option JobPlan). acts.acted_at o s None) is ∙ ap (λ (o : Option Act). acts.acted o s row None) e

made_by_answer : (outcome : outcomes.Outcome) (answer : Answer) (g : Trigger) (entry : EntryText) (m : ℕ) → TellsOf (act.Mount g entry) outcome answer → answer ≡ answers.DidMount m → outcome ≡ came.Made m
made_by_answer outcome answer g entry m (inl h) e =
    let one : answers.DidMount h.0 ≡ answers.DidMount m = sym h.2 ∙ e in
    let same : h.0 ≡ m = cc in
    h.1 ∙ ap (λ (n : ℕ). came.Made n) same
made_by_answer outcome answer g entry m (inr h) e =
    let no : answers.FailedMount ≡ answers.DidMount m = sym h.2 ∙ e in
    absurd cc

done_by_answer : (outcome : outcomes.Outcome) (answer : Answer) (g : Trigger) → TellsOf (act.Umount g) outcome answer → answer ≡ answers.DidUmount → outcome ≡ came.Done
done_by_answer outcome answer g (inl h) e = h.0
done_by_answer outcome answer g (inr h) e =
    let no : answers.FailedUmount ≡ answers.DidUmount = sym h.2 ∙ e in
    absurd cc

-- the trigger of the job is that of its token
on_its_row : (s : State) (fs attach token : ℕ) (job : JobPlan) (w : WaitRows) (h : Served s fs attach token job w) (row : OpenToken) → token_of s.kernel.waits.tokens token ≡ Some row → job.trigger ≡ row.trigger
on_its_row s fs attach token job w h row is =
    let acting = served_acts s fs attach token job w h in
    let its = its_token s token job acting in
    on_its_token s token job acting ∙ ap (λ (r : OpenToken). r.trigger) (some_injective (sym its.is_open ∙ ap (token_of s.kernel.waits.tokens) (job_number s token job acting) ∙ is))

-- the job of an open token is under the attachment that the daemon holds
serves_token : (s : State) → IsWorld s → (fs attach : ℕ) → IsServed s.kernel s.daemon fs attach → (token : ℕ) (row : OpenToken) → token_of s.kernel.waits.tokens token ≡ Some row → row.trigger.fs ≡ fs →
    (job : JobPlan) → job_of s.daemon.jobs token ≡ Some job → Served s fs attach token job s.kernel.waits
serves_token s world fs attach served token row is same job is_job =
    ⊎_elim
    (λ waits.
    let queued = value_where_some (queued_of s.kernel.queue token) waits in
    let none : job_of s.daemon.jobs token ≡ None = ap (job_of s.daemon.jobs) (sym (queued_number s.kernel token queued.0 queued.1)) ∙ (in_pipe s.kernel s.daemon world.consistent.agreed.tokens token queued.0 queued.1).untaken in
    absurd cc)
    (λ work.
    let its : work.job ≡ job = some_injective (sym work.is_job ∙ ap (job_of s.daemon.jobs) (token_number s.kernel.waits.tokens token row is) ∙ is_job) in
    record {
      world = world;
      served = served;
      is_job = is_job;
      fs_is = ap (λ (r : JobPlan). r.trigger.fs) (sym its) ∙ work.fs ∙ same;
      attach_is = ap (λ (r : JobPlan). r.attach) (sym its) ∙ some_injective (sym work.current ∙ ap (attach_of s.kernel) same ∙ served.current);
      waits = refl;
    })
    (world.consistent.agreed.tokens.open_tokens token row is)

-- ---- the record and the reply

module _ (s : State) (fs attach token : ℕ) (row : JobPlan) (w : WaitRows) (h : Served s fs attach token row w) where
  reply_comes : (status : Status) → row.plan ≡ reply status → (outcome_of s (events.Act token None)).answer ≡ answers.DidReply
  reply_comes status plan =
      let d = its_act s fs attach token row w h None (act.Reply status) (reply_next s fs attach token row w h status plan None) in
      ap (λ (o : EventOutcome). o.answer) d.is ∙ d.told.1

  book_comes : (entry : Option Record) (status : Status) (mount : ℕ) (goal : State → Type 0) → row.plan ≡ book_and_reply row.trigger entry status →
      ((mid : State) → Wrote s fs attach token row w entry status mid → goal (next mid (events.Act token None))) → AllCome (book_and_reply row.trigger entry status) mount token goal s
  book_comes entry status mount goal plan finish =
      let d = its_act s fs attach token row w h None (act.Record row.trigger entry) (record_next s fs attach token row w h entry status plan) in
      let m = record_is_written s fs attach token row w h entry status plan None in (
        ap (λ (o : EventOutcome). o.answer) d.is ∙ d.told.1,
        (
          ap (λ (o : EventOutcome). o.answer) (its_act (next s (events.Act token None)) fs attach token m.left w m.served None (act.Reply status) (ap next_of m.plan)).is
              ∙ (its_act (next s (events.Act token None)) fs attach token m.left w m.served None (act.Reply status) (ap next_of m.plan)).told.1,
          finish (next s (events.Act token None)) m,
        ),
      )

-- ---- a walk that begins once more

again_is : (k : KernelState) (pipe : PipeState) (walker moment : ℕ) (row : WaitRow) (walk : WalkRow) → mount_of_walker k.uses walker ≡ None → wait_of k.waits.waits walker ≡ Some row → row.walker ≡ walker → row.status ≡ Some Ready → row.kind ≡ Missing → walk_in k.walks walker ≡ Some walk →
    resumes.resume_at pipe k walker moment ≡ retry pipe k (wait_collected walker k) walk moment
again_is k pipe walker moment row walk out is number ready missing walks =
    ap (λ (o : Option ℕ). if is_some o then kernel.Fails errnos.EINVAL else resumes.resumed_at (wait_of k.waits.waits walker) pipe k moment) out
    ∙ ap (λ (o : Option WaitRow). resumes.resumed_at o pipe k moment) is
    ∙ ap (λ (o : Option Status). resumes.resumed_by o pipe k row moment) ready
    ∙ ap (λ (n : ℕ). resumes.resumed_walk (walk_in k.walks n) Ready pipe k row moment) number
    ∙ ap (λ (o : Option WalkRow). resumes.resumed_walk o Ready pipe k row moment) walks
    ∙ ap (λ (kind : TokenKind). resumes.resumed_as kind Ready pipe k row walk moment) missing
    ∙ ap (λ (n : ℕ). retry pipe k (wait_collected n k) walk moment) number

walks_once_more : (s : State) → IsWorld s → (walker : ℕ) (row : WaitRow) → wait_of s.kernel.waits.waits walker ≡ Some row → row.status ≡ Some Ready → row.kind ≡ Missing → WalksAgain walker s
walks_once_more s world walker row is ready missing =
    let k = s.kernel in
    let number = wait_number k.waits.waits walker row is in
    let out : mount_of_walker k.uses walker ≡ None =
    subst (λ (n : ℕ). mount_of_walker k.uses n ≡ None) number
    (all_found (λ (r : WaitRow). mount_of_walker k.uses r.walker ≡ None) (λ (r : WaitRow). r.walker == walker) k.waits.waits row world.holds.kernel.outside is) in
    let walk = value_where_some (walk_in k.walks row.walker) ((in_step s world.consistent world.named world.failures).walks walker row is missing) in
    let walks : walk_in k.walks walker ≡ Some walk.0 = ap (walk_in k.walks) (sym number) ∙ walk.1 in
    record {
      walk = walk.0;
      its = walks;
      again = λ now pipe. ap (λ (o : kernel.CallOutcome). goes (kernel.at_moment (moment_of k now) o) s) (again_is k pipe walker (moment_of k now) row walk.0 out is number ready missing walks);
    }

-- ---- the mount is written down, and READY is left

-- a missing token, open in the old world
record IsMissing (old : State) (token : ℕ) : Type 0 where
  world : IsWorld old
  row : OpenToken
  is_open : token_of old.kernel.waits.tokens token ≡ Some row
  missing : row.kind ≡ Missing

-- what the acts before leave of what walks meet, with these mounts
record Led (k made : KernelState) (g : Trigger) (Mounts : MountTable → Type 0) : Type 0 where
  autofs : made.triggers.autofs ≡ k.triggers.autofs
  made_same : (h : Trigger) → same_trigger g h ≡ false → is_made made.triggers h ≡ is_made k.triggers h
  failures : made.failures ≡ k.failures
  negative : made.negative ≡ k.negative
  mounts : Mounts made.table

-- no mount has come yet
abbrev IsLed : KernelState → KernelState → Trigger → Type 0
IsLed k made g = Led k made g (λ t. t ≡ k.table)

-- the mount has come
abbrev IsLedPast : KernelState → KernelState → Trigger → Type 0
IsLedPast k made g = Led k made g (λ t. ComesThere k.table t (location_of k g.fs) (place_of g))

led_nowhere : (k : KernelState) (g : Trigger) → IsLed k k g
led_nowhere k g = record { autofs = refl; made_same = λ h other. refl; failures = refl; negative = refl; mounts = refl }

led_without : (k made : KernelState) (g : Trigger) (token : ℕ) → made ≡ without_packet token k → IsLed k made g
led_without k made g token is = subst (λ (n : KernelState). IsLed k n g) (sym is) (record { autofs = refl; made_same = λ h other. refl; failures = refl; negative = refl; mounts = refl })

past_nothing : (k made : KernelState) (g : Trigger) → IsLed k made g → IsLedPast k made g
past_nothing k made g l = record {
  autofs = l.autofs;
  made_same = l.made_same;
  failures = l.failures;
  negative = l.negative;
  mounts = subst (λ (t : MountTable). ComesThere k.table t (location_of k g.fs) (place_of g)) (sym l.mounts) (comes_nothing k.table (location_of k g.fs) (place_of g));
}

past_mount : (k made : KernelState) (g : Trigger) → IsWhole made.table → is_mount made.table (location_of made g.fs) ≡ true → IsLed k made g → IsLedPast k (with_mount_on g made) g
past_mount k made g whole there l =
    let came : ComesThere made.table (with_mount_on g made).table (location_of made g.fs) (place_of g) = comes_there made.table whole (location_of made g.fs) (made.last_fs + 1) (place_of g) there in
    let location : location_of made g.fs ≡ location_of k g.fs = ap (λ (rows : List Autofs). location_in (find (λ (r : Autofs). r.fs == g.fs) rows)) l.autofs in
    record {
      autofs = l.autofs;
      made_same = l.made_same;
      failures = l.failures;
      negative = l.negative;
      mounts = subst (λ (t : MountTable). ComesThere t (with_mount_on g made).table (location_of k g.fs) (place_of g)) l.mounts
          (subst (λ (x : ℕ). ComesThere made.table (with_mount_on g made).table x (place_of g)) location came);
    }

all_of : {X : Type 0} (P : X → Type 0) → ((x : X) → P x) → (xs : List X) → All P xs
all_of P h [] = All-nil P
all_of P h (x ∷ xs) = All-cons P x xs (h x) (all_of P h xs)

-- READY leaves what failed at other triggers
ready_elsewhere : (kind : TokenKind) (g other : Trigger) (moment : ℕ) (rows : FailureRows) → same_trigger g other ≡ false → failure_of (settled kind g Ready moment rows) other ≡ failure_of rows other
ready_elsewhere Missing g other moment rows apart =
    ap (option_map (λ (r : Trigger × Failure). r.1))
    (find_kept (λ (r : Trigger × Failure). same_trigger r.0 other) (λ (r : Trigger × Failure). not (same_trigger r.0 g)) rows
    (all_of (λ (r : Trigger × Failure). same_trigger r.0 other ≡ true → not (same_trigger r.0 g) ≡ true)
    (λ r on. not_where_false (same_trigger r.0 g) (ap (λ (t : Trigger). same_trigger t g) (equal_by_same_trigger r.0 other on) ∙ same_trigger_either_way other g ∙ apart)) rows))
ready_elsewhere Expire g other moment rows apart = refl

module _ (old s : State) (fs attach token : ℕ) (row : JobPlan) (h : Served s fs attach token row old.kernel.waits) (its : IsMissing old token) where
  -- its trigger is that of the token
  on_old : its.row.trigger ≡ row.trigger
  on_old = sym (on_its_row s fs attach token row old.kernel.waits h its.row (ap (λ (w : WaitRows). token_of w.tokens token) h.waits ∙ its.is_open))

  open_in_old : IsOpenOn old.kernel row.trigger token
  open_in_old = record {
    its = its.row;
    is_open = its.is_open;
    on = on_old;
    missing = its.missing;
    number = token_number old.kernel.waits.tokens token its.row its.is_open;
    rise = its.world.consistent.traced.fits.sound.tokens;
    once = its.world.consistent.agreed.tokens.once;
  }

  leaves_then : row.plan ≡ reply Ready → IsLedPast old.kernel s.kernel row.trigger → Leaves old.kernel (next s (events.Act token None)).kernel row.trigger token
  leaves_then plan l =
      let acting = served_acts s fs attach token row old.kernel.waits h in
      let mine = its_token s token row acting in
      subst (λ (n : KernelState). Leaves old.kernel n row.trigger token) (sym (reply_kernel s fs attach token row old.kernel.waits h Ready plan None))
      (record {
        autofs = l.autofs;
        made_same = l.made_same;
        tokens = ap (λ (n : ℕ). without_token n s.kernel.waits.tokens) (job_number s token row acting) ∙ ap (λ (w : WaitRows). without_token token w.tokens) h.waits;
        failures = λ other apart.
            ap (λ (o : Option OpenToken). failure_of (settled_by o Ready s.kernel.latest s.kernel.failures) other) mine.is_open
            ∙ ready_elsewhere mine.token.kind mine.token.trigger other s.kernel.latest s.kernel.failures (subst (λ (t : Trigger). same_trigger t other ≡ false) (on_its_token s token row acting) apart)
            ∙ ap (λ (rows : FailureRows). failure_of rows other) l.failures;
        negative = l.negative;
        table = l.mounts;
      })

module _ (old s : State) (fs attach token : ℕ) (row : JobPlan) (h : Served s fs attach token row old.kernel.waits) (its : IsMissing old token) (led : IsLedPast old.kernel s.kernel row.trigger) (m : ℕ) (plan : row.plan ≡ reply Ready) (written : record_of s.daemon.book row.trigger ≡ Some (Mounted m)) where
  passed_then : CanBePassed old token row.trigger m (next s (events.Act token None))
  passed_then =
      let w = old.kernel.waits in
      let new = next s (events.Act token None) in
      let world = reply_world s fs attach token row w h Ready plan None in
      let served = reply_served s fs attach token row w h Ready plan None in
      let waits = reply_waits s fs attach token row w h Ready plan None in
      let said : record_of new.daemon.book row.trigger ≡ Some (Mounted m) = ap (λ (book : List RecordRow). record_of book row.trigger) (reply_book s fs attach token row w h Ready plan None) ∙ written in
      let mounted = (agrees new world.consistent world.named fs attach served).mounted row.trigger m h.fs_is said in
      let current : attach_of new.kernel row.trigger.fs ≡ Some attach = ap (attach_of new.kernel) h.fs_is ∙ served.current in
      let site : IsSite new.kernel.triggers row.trigger =
      subst (λ (k : KernelState). IsSite k.triggers row.trigger) (sym (reply_kernel s fs attach token row w h Ready plan None)) (its_site s token row (served_acts s fs attach token row w h)) in
      let off = off_by_cases s fs attach token row w h new.kernel.waits Ready waits world.consistent.traced.fits.sound.tokens in
      let answered = answers_all old token Ready new waits in
      let here = passes_here new world attach row.trigger m current site off mounted.here in
      let copies : (y : ℕ) → Receives new.kernel.table.groups (location_of new.kernel row.trigger.fs) y → y < m → (copy : ℕ) × ((moment : ℕ) → next_at (scene_of new.kernel moment) y (place_of row.trigger) ≡ nexts.Passes copy row.trigger) =
      λ y receives older. passes_copy new world attach row.trigger y m current site off receives (mounted.copied y receives older) in
      let leaves = leaves_then old s fs attach token row h its plan led in
      let autofs = attached_autofs new.kernel row.trigger.fs attach current in
      let is_a : autofs_of old.kernel.triggers row.trigger.fs ≡ Some autofs.0 = ap (λ (rows : List Autofs). find (λ (r : Autofs). r.fs == row.trigger.fs) rows) (sym leaves.autofs) ∙ autofs.1 in
      let own : trigger_in autofs.0 (place_of row.trigger) ≡ Some row.trigger =
      trigger_by_cases autofs.0 row.trigger row.trigger.name autofs.0.direct refl refl (equal_by_test autofs.0.fs row.trigger.fs (found_passes (λ (r : Autofs). r.fs == row.trigger.fs) new.kernel.triggers.autofs autofs.0 autofs.1))
      (sym (ap (λ (o : Option Autofs). is_trigger_of o row.trigger) autofs.1) ∙ site) in
      record {
        mounted = mounted;
        written = said;
        answered = answered;
        ready = refl;
        passes = here;
        passes_copies = copies;
        leads_past = λ ns all moment path waits.
            walks_past old.kernel new.kernel its.world.consistent.agreed.places row.trigger token moment ns (open_in_old old s fs attach token row h its) leaves autofs.0 is_a own
            (λ x at is_at same of. ⊎_elim
            (λ own_mount. (m, ap (λ (n : ℕ). next_at (scene_of new.kernel moment) n (place_of row.trigger)) own_mount ∙ here moment))
            (λ other. let copy = copies x other.0 other.1 in (copy.0, copy.1 moment))
            (all x at (leaves.table.stays x at is_at) same of))
            path waits;
        walks_again = λ walker wait is on still.
            let open_on = its.world.consistent.traced.fits.sound.same walker wait is still in
            let one : open_on.0 ≡ its.row = some_injective (sym open_on.1 ∙ ap (token_of old.kernel.waits.tokens) on ∙ its.is_open) in
            let missing : wait.kind ≡ Missing = sym open_on.3 ∙ ap (λ (r : OpenToken). r.kind) one ∙ its.missing in
            walks_once_more new world walker (record wait { status = Some Ready }) (answered.released walker wait is on still) refl missing;
      }

-- ---- the directory is made

record HasMade (k : KernelState) (g : Trigger) (made : KernelState) : Type 0 where
  there : is_made made.triggers g ≡ true
  autofs : made.triggers.autofs ≡ k.triggers.autofs
  table : made.table ≡ k.table
  numbers : made.last_fs ≡ k.last_fs
  others : (h : Trigger) → same_trigger g h ≡ false → is_made made.triggers h ≡ is_made k.triggers h
  failures : made.failures ≡ k.failures
  negative : made.negative ≡ k.negative

made_by : (b : Bool) (s : State) (row : JobPlan) (g : Trigger) → is_made s.kernel.triggers g ≡ b → HasMade s.kernel g (acts.mkdir_by (if b then Some errnos.EEXIST else None) s row g).state.kernel
made_by true s row g is = record { there = is; autofs = refl; table = refl; numbers = refl; others = λ h other. refl; failures = refl; negative = refl }
made_by false s row g is = record {
  there = any_last (λ (r : Trigger). same_trigger r g) s.kernel.triggers.made g (same_trigger_itself g);
  autofs = refl;
  table = refl;
  numbers = refl;
  others = λ h other.
      list_any-append (λ (r : Trigger). same_trigger r h) s.kernel.triggers.made (g ∷ [])
      ∙ ap (λ (b : Bool). is_made s.kernel.triggers h || (b || false)) other ∙ or_false (is_made s.kernel.triggers h);
  failures = refl;
  negative = refl;
}

numbers_same : (k made : KernelState) (fs : ℕ) → made.triggers.autofs ≡ k.triggers.autofs → made.table ≡ k.table → made.last_fs ≡ k.last_fs → new_fs_refusal made (location_of made fs) ≡ new_fs_refusal k (location_of k fs)
numbers_same k made fs autofs table numbers =
    ap (λ (n : ℕ). or_else (if nat_le greatest_u32 n then Some errnos.ENOSPC else None) (added.mount_refusal (location_of made fs) made.table)) numbers
    ∙ ap (λ (t : MountTable). or_else (fs_refusal k) (added.mount_refusal (location_of made fs) t)) table
    ∙ ap (λ (rows : List Autofs). or_else (fs_refusal k) (added.mount_refusal (location_in (find (λ (r : Autofs). r.fs == fs) rows)) k.table)) autofs

there_by_cases : (direct : Bool) (name : Option (List ℕ)) (made : Bool) → (if direct then is_none name else is_some name) ≡ true → (is_some name ≡ true → made ≡ true) → (if direct then is_none name else is_some name && made) ≡ true
there_by_cases true name made site h = site
there_by_cases false None made site h = absurd cc
there_by_cases false (Some name) made site h = h refl

there_in : (o : Option Autofs) (k : KernelState) (g : Trigger) → is_trigger_of o g ≡ true → (is_some g.name ≡ true → is_made k.triggers g ≡ true) → is_there_in o k g ≡ true
there_in None k g site h = absurd cc
there_in (Some a) k g site h = there_by_cases a.direct g.name (is_made k.triggers g) site h

-- ---- the mount comes

allowed_by_cases : (current there mounted : Bool) (o : Option Errno) → current ≡ true → there ≡ true → mounted ≡ false → o ≡ None →
    (if not current then Some errnos.EPERM else if not there then Some errnos.ENOENT else if mounted then Some errnos.EBUSY else o) ≡ None
allowed_by_cases true true false o c t m none = none
allowed_by_cases false there mounted o c t m none = absurd cc
allowed_by_cases true false mounted o c t m none = absurd cc
allowed_by_cases true true true o c t m none = absurd cc

left_by_name : (name : Option (List ℕ)) (g : Trigger) → has_record_left (at_directory name (act.Rmdir g) (without_mount g ENOENT)) ≡ true
left_by_name None g = refl
left_by_name (Some name) g = refl

module _ (old s : State) (fs attach token : ℕ) (row : JobPlan) (h : Served s fs attach token row old.kernel.waits) (its : IsMissing old token) (entry : EntryText) where
  -- the number that the mount has
  abbrev coming : ℕ
  coming = s.kernel.table.last_mount + 1

  mount_comes : IsLed old.kernel s.kernel row.trigger → row.plan ≡ mount_entry row.trigger entry → is_there s.kernel row.trigger ≡ true → new_fs_refusal s.kernel (location_of s.kernel row.trigger.fs) ≡ None →
      AllCome (mount_entry row.trigger entry) coming token (CanBePassed old token row.trigger coming) s
  mount_comes led plan there numbers =
      let k = s.kernel in
      let w = old.kernel.waits in
      let g = row.trigger in
      let e : next_of row.plan ≡ Some (act.Mount g entry) = ap next_of plan in
      let current = its_current s token row (served_acts s fs attach token row w h) in
      let free : mounted_on k g ≡ None =
      h.world.consistent.agreed.stands.at_work fs attach h.served token row h.is_job h.fs_is h.attach_is (ap has_record_left plan ∙ left_by_name g.name g) ∙ ap claims plan in
      let allowed : mount_on_refusal k row.attach g ≡ None =
      allowed_by_cases (is_current k g.fs row.attach) (is_there k g) (is_some (mounted_on k g)) (new_fs_refusal k (location_of k g.fs)) current there (ap is_some free) numbers in
      let is : outcome_of s (events.Act token None) ≡ acts.mounts s row g =
      act_is s token row (act.Mount g entry) h.is_job e
      ∙ ap (λ (b : Bool). if not b then refused s errnos.EPERM else acts.mount_tried None s row g) current
      ∙ ap (λ (o : Option Errno). acts.mount_by o s row g) allowed in
      let d = its_act s fs attach token row w h None (act.Mount g entry) e in
      let answer : (outcome_of s (events.Act token None)).answer ≡ answers.DidMount coming = ap (λ (o : EventOutcome). o.answer) is in
      let made : d.came ≡ came.Made coming = made_by_answer d.came d.answer g entry coming d.told (sym (ap (λ (o : EventOutcome). o.answer) d.is) ∙ answer) in
      let left = act_goes s fs attach token row w h None (act.Mount g entry) e refl refl in
      let n = next s (events.Act token None) in
      let kernel : n.kernel ≡ with_mount_on g k = ap (λ (o : EventOutcome). (after s o).kernel) is in
      let autofs = attached_autofs k g.fs attach (ap (attach_of k) h.fs_is ∙ h.served.current) in
      let place = h.world.consistent.agreed.places.locations g.fs autofs.0 autofs.1 in
      let mount : is_mount k.table (location_of k g.fs) ≡ true = ap (λ (o : Option Autofs). is_mount k.table (location_in o)) autofs.1 ∙ ap is_some place.is_row in
      let past : IsLedPast old.kernel n.kernel g = subst (λ (made : KernelState). IsLedPast old.kernel made g) (sym kernel) (past_mount old.kernel k g h.world.consistent.agreed.places.whole mount led) in (
        answer,
        book_comes (next s (events.Act token None)) fs attach token (walked d.came row) w left (Some (Mounted coming)) Ready coming (CanBePassed old token g coming)
            (ap (λ (o : outcomes.Outcome). rest_of o row.plan) made ∙ ap (rest_of (came.Made coming)) plan)
            (λ mid m. subst (λ (t : Trigger). CanBePassed old token t coming (next mid (events.Act token None))) m.on
            (passed_then old mid fs attach token m.left m.served its (subst (λ (t : Trigger). IsLedPast old.kernel mid.kernel t) (sym m.on) (subst (λ (made : KernelState). IsLedPast old.kernel made g) (sym m.kernel) past)) coming m.plan (ap (record_of mid.daemon.book) m.on ∙ m.written))),
      )

-- the directory first
module _ (old s : State) (fs attach token : ℕ) (row : JobPlan) (h : Served s fs attach token row old.kernel.waits) (its : IsMissing old token) (led : IsLed old.kernel s.kernel row.trigger) (entry : EntryText) (numbers : new_fs_refusal s.kernel (location_of s.kernel row.trigger.fs) ≡ None) where
  directory_comes : is_some row.trigger.name ≡ true → row.plan ≡ followed_by (act.Mkdir row.trigger) (mount_entry row.trigger entry) →
      AllCome (followed_by (act.Mkdir row.trigger) (mount_entry row.trigger entry)) (s.kernel.table.last_mount + 1) token (CanBePassed old token row.trigger (s.kernel.table.last_mount + 1)) s
  directory_comes named plan =
      let k = s.kernel in
      let w = old.kernel.waits in
      let g = row.trigger in
      let e : next_of row.plan ≡ Some (act.Mkdir g) = ap next_of plan in
      let acting = served_acts s fs attach token row w h in
      let d = its_act s fs attach token row w h None (act.Mkdir g) e in
      let mid = next s (events.Act token None) in
      let left = act_goes s fs attach token row w h None (act.Mkdir g) e refl refl in
      let is : outcome_of s (events.Act token None) ≡ acts.mkdir_by (triggers.mkdir_refusal g k.triggers) s row g =
      act_is s token row (act.Mkdir g) h.is_job e
      ∙ ap (λ (o : Option Errno). acts.mkdir_by (or_else o (triggers.mkdir_refusal g k.triggers)) s row g) (directory_fine s token row acting named) in
      let made : HasMade k g mid.kernel = subst (λ (o : EventOutcome). HasMade k g o.state.kernel) (sym is) (made_by (is_made k.triggers g) s row g refl) in
      let site = its_site mid token (walked d.came row) (served_acts mid fs attach token (walked d.came row) w left) in
      let there : is_there mid.kernel g ≡ true = there_in (autofs_of mid.kernel.triggers g.fs) mid.kernel g site (λ some. made.there) in
      let led_on : IsLed old.kernel mid.kernel g = record {
        autofs = made.autofs ∙ led.autofs;
        made_same = λ other apart. made.others other apart ∙ led.made_same other apart;
        failures = made.failures ∙ led.failures;
        negative = made.negative ∙ led.negative;
        mounts = made.table ∙ led.mounts;
      } in
      let same : mid.kernel.table.last_mount + 1 ≡ k.table.last_mount + 1 = ap (λ (t : MountTable). t.last_mount + 1) made.table in (
        ap (λ (o : EventOutcome). o.answer) d.is ∙ d.told.1,
        subst (λ (m : ℕ). AllCome (mount_entry g entry) m token (CanBePassed old token g m) mid) same
            (mount_comes old mid fs attach token (walked d.came row) left its entry led_on (ap (λ (o : outcomes.Outcome). rest_of o row.plan) d.told.0 ∙ ap (rest_of came.Done) plan) there
            (numbers_same k mid.kernel g.fs made.autofs made.table made.numbers ∙ numbers)),
      )

  -- by whether it has a directory
  mounting_by_name : (name : Option (List ℕ)) → row.trigger.name ≡ name → row.plan ≡ at_directory name (act.Mkdir row.trigger) (mount_entry row.trigger entry) →
      AllCome (at_directory name (act.Mkdir row.trigger) (mount_entry row.trigger entry)) (s.kernel.table.last_mount + 1) token (CanBePassed old token row.trigger (s.kernel.table.last_mount + 1)) s
  mounting_by_name (Some name) named plan = directory_comes (ap is_some named) plan
  mounting_by_name None named plan =
      let site = its_site s token row (served_acts s fs attach token row old.kernel.waits h) in
      mount_comes old s fs attach token row h its entry led plan
      (there_in (autofs_of s.kernel.triggers row.trigger.fs) s.kernel row.trigger site (λ some. let no : false ≡ true = sym (ap is_some named) ∙ some in absurd cc)) numbers

  mounting_comes : row.plan ≡ mounting row.trigger entry → AllCome (mounting row.trigger entry) (s.kernel.table.last_mount + 1) token (CanBePassed old token row.trigger (s.kernel.table.last_mount + 1)) s
  mounting_comes plan = mounting_by_name row.trigger.name refl plan

-- ---- a job that is about to mount

about_to_mount : (s : State) (fs attach token : ℕ) (job : JobPlan) → Served s fs attach token job s.kernel.waits → IsMissing s token → new_fs_refusal s.kernel (location_of s.kernel job.trigger.fs) ≡ None → IsWholeMount job.trigger job.plan → is_to_mount (next_of job.plan) ≡ true →
    (m : ℕ) × AllCome job.plan m token (CanBePassed s token job.trigger m) s
about_to_mount s fs attach token job h its numbers (inl whole) about =
    let g = job.trigger in
    let e : next_of job.plan ≡ Some (act.Mkdir g) = ap next_of whole.1 in
    let named = (next_own g job.plan (act.Mkdir g) (its_acts s token job (served_acts s fs attach token job s.kernel.waits h)).own e).1 in
    let m = s.kernel.table.last_mount + 1 in
    (m, subst (λ (p : Plan). AllCome p m token (CanBePassed s token g m) s) (sym whole.1) (directory_comes s s fs attach token job h its (led_nowhere s.kernel g) whole.0 numbers named whole.1))
about_to_mount s fs attach token job h its numbers (inr (inl whole)) about =
    let g = job.trigger in
    let m = s.kernel.table.last_mount + 1 in
    let acting = served_acts s fs attach token job s.kernel.waits h in
    let there : is_there s.kernel g ≡ true =
    there_in (autofs_of s.kernel.triggers g.fs) s.kernel g (its_site s token job acting) (λ named. h.world.directories token job h.is_job acting.current whole.0 (ap next_of whole.1) named) in
    (m, subst (λ (p : Plan). AllCome p m token (CanBePassed s token g m) s) (sym whole.1) (mount_comes s s fs attach token job h its whole.0 (led_nowhere s.kernel g) whole.1 there numbers))
about_to_mount s fs attach token job h its numbers (inr (inr none)) about = absurd (no_mount_left job.plan none about)

-- ---- a packet that asks for a mount

mounted_is : (r : Option Record) (m : ℕ) → mounted_in r ≡ Some m → r ≡ Some (Mounted m)
mounted_is None m e = absurd cc
mounted_is (Some (Mounting token)) m e = absurd cc
mounted_is (Some (Mounted mount)) m e = ap (λ (n : ℕ). Some (Mounted n)) (some_injective e)
mounted_is (Some (Unmounting token mount)) m e = absurd cc

module _ (s : State) (world : IsWorld s) (fs attach : ℕ) (served : IsServed s.kernel s.daemon fs attach) (token : ℕ) (row : OpenToken) (is : token_of s.kernel.waits.tokens token ≡ Some row) (same : row.trigger.fs ≡ fs) (queued : QueuedRow) (in_queue : queued_of s.kernel.queue token ≡ Some queued) where
  abbrev taking : Takes s fs attach token queued
  taking = takes_packet s world fs attach served token row is same queued in_queue

  abbrev taken : State
  taken = next s (events.Deliver token None)

  -- its job is on the trigger
  job_on : taking.job.trigger ≡ row.trigger
  job_on = on_its_row taken fs attach token taking.job s.kernel.waits taking.served row (ap (λ (w : WaitRows). token_of w.tokens token) taking.served.waits ∙ is)

  asks_for : trigger_of queued.packet ≡ row.trigger
  asks_for = sym taking.on ∙ job_on

  kind_asked : token_kind queued.packet.kind ≡ row.kind
  kind_asked =
      let pipe = in_pipe s.kernel s.daemon world.consistent.agreed.tokens token queued in_queue in
      let one : pipe.token ≡ row = some_injective (sym pipe.is_open ∙ ap (token_of s.kernel.waits.tokens) (queued_number s.kernel token queued in_queue) ∙ is) in
      ap (λ (a : Asked). a.kind) pipe.asks ∙ ap (λ (r : OpenToken). r.kind) one

  abbrev said : Option ℕ
  said = mounted_in (record_of s.daemon.book row.trigger)

  plan_is : taking.job.plan ≡ plan_for row.kind row.trigger said (entry_of s.daemon row.trigger)
  plan_is =
      taking.plan
      ∙ ap (λ (kind : TokenKind). plan_for kind (trigger_of queued.packet) (mounted_for s.daemon queued.packet) (entry_of s.daemon (trigger_of queued.packet))) kind_asked
      ∙ ap (λ (g : Trigger). plan_for row.kind g (mounted_in (record_of s.daemon.book g)) (entry_of s.daemon g)) asks_for

  mount_from_pipe : IsMissing s token → (numbers : new_fs_refusal s.kernel (location_of s.kernel fs) ≡ None) (entry : EntryText) (o : Option ℕ) → said ≡ o → taking.job.plan ≡ missing_plan row.trigger o (Some entry) →
      (m : ℕ) × AllCome (missing_plan row.trigger o (Some entry)) m token (CanBePassed s token row.trigger m) taken
  mount_from_pipe its numbers entry None says plan =
      let m = taken.kernel.table.last_mount + 1 in
      let left : new_fs_refusal taken.kernel (location_of taken.kernel taking.job.trigger.fs) ≡ None =
      subst (λ (k : KernelState). new_fs_refusal k (location_of k taking.job.trigger.fs) ≡ None) (sym taking.kernel)
      (ap (λ (f : ℕ). new_fs_refusal s.kernel (location_of s.kernel f)) taking.served.fs_is ∙ numbers) in (
        m,
        subst (λ (g : Trigger). AllCome (mounting g entry) m token (CanBePassed s token g m) taken) job_on
            (mounting_comes s taken fs attach token taking.job taking.served its (led_without s.kernel taken.kernel taking.job.trigger queued.token taking.kernel) entry left (plan ∙ ap (λ (g : Trigger). mounting g entry) (sym job_on))),
      )
  mount_from_pipe its numbers entry (Some m) says plan =
      let written : record_of taken.daemon.book taking.job.trigger ≡ Some (Mounted m) =
      ap (λ (book : List RecordRow). record_of book taking.job.trigger) taking.book
      ∙ ap (λ (p : Plan). record_of (told p (trigger_of queued.packet) (pending_of s.daemon queued.packet) s.daemon.book) taking.job.trigger) (sym taking.plan ∙ plan)
      ∙ ap (record_of s.daemon.book) job_on ∙ mounted_is (record_of s.daemon.book row.trigger) m says in (
        m,
        (
          reply_comes taken fs attach token taking.job s.kernel.waits taking.served Ready plan,
          subst (λ (g : Trigger). CanBePassed s token g m (next taken (events.Act token None))) job_on (passed_then s taken fs attach token taking.job taking.served its (past_nothing s.kernel taken.kernel taking.job.trigger (led_without s.kernel taken.kernel taking.job.trigger queued.token taking.kernel)) m plan written),
        ),
      )

-- ---- what is missing

come : (s : State) → IsWorld s → (fs attach : ℕ) → IsServed s.kernel s.daemon fs attach → (token : ℕ) (row : OpenToken) → token_of s.kernel.waits.tokens token ≡ Some row → row.trigger.fs ≡ fs → row.kind ≡ Missing →
    new_fs_refusal s.kernel (location_of s.kernel fs) ≡ None → CanBeMounted s token row.trigger
come s world fs attach served token row is same missing numbers =
    let its : IsMissing s token = record { world = world; row = row; is_open = is; missing = missing } in
    record {
      from_pipe = λ queued in_queue entry found.
          let plan = plan_is s world fs attach served token row is same queued in_queue
          ∙ ap (λ (kind : TokenKind). plan_for kind row.trigger (mounted_in (record_of s.daemon.book row.trigger)) (entry_of s.daemon row.trigger)) missing
          ∙ ap (missing_plan row.trigger (mounted_in (record_of s.daemon.book row.trigger))) found in (
            (takes_packet s world fs attach served token row is same queued in_queue).done,
            mount_from_pipe s world fs attach served token row is same queued in_queue its numbers entry (mounted_in (record_of s.daemon.book row.trigger)) refl plan,
          );
      from_job = λ job is_job about.
          let h = serves_token s world fs attach served token row is same job is_job in
          let on = on_its_row s fs attach token job s.kernel.waits h row is in
          let left : new_fs_refusal s.kernel (location_of s.kernel job.trigger.fs) ≡ None = ap (λ (f : ℕ). new_fs_refusal s.kernel (location_of s.kernel f)) h.fs_is ∙ numbers in
          subst (λ (g : Trigger). (m : ℕ) × AllCome job.plan m token (CanBePassed s token g m) s) on
          (about_to_mount s fs attach token job h its left (its_acts s token job (served_acts s fs attach token job s.kernel.waits h)).mounts about);
    }

-- ---- what expires

module _ (old s : State) (fs attach token : ℕ) (row : JobPlan) (h : Served s fs attach token row old.kernel.waits) (good : failure_of s.kernel.failures row.trigger ≡ None) where
  written_down : (m : ℕ) → row.plan ≡ book_and_reply row.trigger None Ready → AllCome (book_and_reply row.trigger None Ready) m token (CanTrapAgain old attach token row.trigger) s
  written_down m plan =
      let w = old.kernel.waits in
      book_comes s fs attach token row w h None Ready m (CanTrapAgain old attach token row.trigger) plan
      (λ mid e. subst (λ (g : Trigger). CanTrapAgain old attach token g (next mid (events.Act token None))) e.on (record {
        trap = trap_again mid fs attach token e.left w e.served None e.plan (ap (record_of mid.daemon.book) e.on ∙ e.written)
            (ap (λ (k : KernelState). failure_of k.failures e.left.trigger) e.kernel ∙ ap (failure_of s.kernel.failures) e.on ∙ good);
        answered = answers_all old token Ready (next mid (events.Act token None)) (reply_waits mid fs attach token e.left w e.served Ready e.plan None);
        ready = refl;
      }))

umounted_comes : (old s : State) (fs attach token : ℕ) (row : JobPlan) (h : Served s fs attach token row old.kernel.waits) (m : ℕ) (name : Option (List ℕ)) → row.trigger.name ≡ name → failure_of s.kernel.failures row.trigger ≡ None → row.plan ≡ at_directory name (act.Rmdir row.trigger) (book_and_reply row.trigger None Ready) →
    AllCome (at_directory name (act.Rmdir row.trigger) (book_and_reply row.trigger None Ready)) m token (CanTrapAgain old attach token row.trigger) s
umounted_comes old s fs attach token row h m None named good plan = written_down old s fs attach token row h good m plan
umounted_comes old s fs attach token row h m (Some name) named good plan =
    let w = old.kernel.waits in
    let e : next_of row.plan ≡ Some (act.Rmdir row.trigger) = ap next_of plan in
    let d = its_act s fs attach token row w h None (act.Rmdir row.trigger) e in (
      ap (λ (o : EventOutcome). o.answer) d.is ∙ d.told.1,
      written_down old (next s (events.Act token None)) fs attach token (walked d.came row) (act_goes s fs attach token row w h None (act.Rmdir row.trigger) e refl refl)
          (ap (λ (k : KernelState). failure_of k.failures row.trigger) (act_kernel s fs attach token row w h None (act.Rmdir row.trigger) e) ∙ ap (λ (rows : FailureRows). failure_of rows row.trigger) d.leaves ∙ good) m
          (ap (λ (o : outcomes.Outcome). rest_of o row.plan) d.told.0 ∙ ap (rest_of came.Done) plan),
    )

pub umount_leaves : (outcome : outcomes.Outcome) (g : Trigger) (token : ℕ) (k made : KernelState) → outcome ≡ came.Done → LeavesKernel (act.Umount g) outcome token k made → made.failures ≡ k.failures
umount_leaves came.Done g token k made e leaves = leaves
umount_leaves (came.Made m) g token k made e leaves = absurd cc
umount_leaves (came.Failed other) g token k made e leaves = absurd cc

umount_comes : (old s : State) (fs attach token m : ℕ) (row : JobPlan) (h : Served s fs attach token row old.kernel.waits) → row.plan ≡ unmounting row.trigger m → umount_refusal (is_used s.kernel.uses) m s.kernel.table ≡ None → (n : ℕ) →
    AllCome (unmounting row.trigger m) n token (CanTrapAgain old attach token row.trigger) s
umount_comes old s fs attach token m row h plan may n =
    let k = s.kernel in
    let w = old.kernel.waits in
    let g = row.trigger in
    let own : Served s fs attach token row s.kernel.waits = record { world = h.world; served = h.served; is_job = h.is_job; fs_is = h.fs_is; attach_is = h.attach_is; waits = refl } in
    let e : next_of row.plan ≡ Some (act.Umount g) = ap next_of plan in
    let current = its_current s token row (served_acts s fs attach token row w h) in
    let stands : mounted_on k g ≡ Some m = stands_there s fs attach token m row own plan None in
    let allowed : umount_from_refusal k row.attach g ≡ None =
    ap (λ (b : Bool). if not b then Some errnos.EPERM else umount_from_tests (mounted_on k g) k) current ∙ ap (λ (o : Option ℕ). umount_from_tests o k) stands ∙ may in
    let is : outcome_of s (events.Act token None) ≡ acts.umounts s row g =
    act_is s token row (act.Umount g) h.is_job e
    ∙ ap (λ (b : Bool). if not b then refused s errnos.EPERM else acts.umount_tried None s row g) current
    ∙ ap (λ (o : Option Errno). acts.umount_by o s row g) allowed in
    let d = its_act s fs attach token row w h None (act.Umount g) e in
    let answer : (outcome_of s (events.Act token None)).answer ≡ answers.DidUmount = ap (λ (o : EventOutcome). o.answer) is in
    let done : d.came ≡ came.Done = done_by_answer d.came d.answer g d.told (sym (ap (λ (o : EventOutcome). o.answer) d.is) ∙ answer) in
    let good : failure_of (next s (events.Act token None)).kernel.failures g ≡ None =
    ap (λ (k : KernelState). failure_of k.failures g) (act_kernel s fs attach token row w h None (act.Umount g) e)
    ∙ ap (λ (rows : FailureRows). failure_of rows g) (umount_leaves d.came g row.token k d.made done d.leaves) ∙ good_before s fs attach token m row own plan None in (
      answer,
      umounted_comes old (next s (events.Act token None)) fs attach token (walked d.came row) (act_goes s fs attach token row w h None (act.Umount g) e refl refl) n g.name refl good
          (ap (λ (o : outcomes.Outcome). rest_of o row.plan) done ∙ ap (rest_of came.Done) plan),
    )

busy_by_cases : (known held busy : Bool) → known ≡ true → held ≡ true → ((if not known then Some UnknownFs else if not held then Some OldAttach else if busy then Some Busy else None) ≡ Some Busy → ⊥) → busy ≡ false
busy_by_cases true true false k h free = refl
busy_by_cases true true true k h free = absurd (free refl)
busy_by_cases false held busy k h free = absurd cc
busy_by_cases true false busy k h free = absurd cc

-- what the book says to be mounted, while the packet is in the pipe
said_of_queued : (s : State) → IsWorld s → (fs attach : ℕ) → IsServed s.kernel s.daemon fs attach → (token : ℕ) (queued : QueuedRow) → queued_of s.kernel.queue token ≡ Some queued → (g : Trigger) → trigger_of queued.packet ≡ g → queued.packet.dev ≡ fs →
    mounted_on s.kernel g ≡ mounted_in (record_of s.daemon.book g)
said_of_queued s world fs attach served token queued in_queue g on dev =
    let step = in_step s world.consistent world.named world.failures in
    let held = packet_held s world fs attach served token queued in_queue dev in
    let known = step.held queued.packet.dev queued.attach held in
    let busy : is_busy s.daemon queued.packet ≡ false =
    busy_by_cases (knows s.daemon queued.packet.dev) (holds s.daemon queued.packet.dev queued.attach) (is_busy s.daemon queued.packet) known held (step.free token queued in_queue) in
    let settled : is_pending (record_of s.daemon.book g) ≡ false = ap (λ (t : Trigger). is_pending (record_of s.daemon.book t)) (sym on) ∙ (neither_of_or (is_pending (record_of s.daemon.book (trigger_of queued.packet))) (is_some (job_of s.daemon.jobs queued.packet.token)) busy).0 in
    world.consistent.agreed.stands.settled fs attach served g (sym (ap (λ (t : Trigger). t.fs) on) ∙ dev) settled

go : (s : State) → IsWorld s → (fs attach : ℕ) → IsServed s.kernel s.daemon fs attach → (token : ℕ) (row : OpenToken) → token_of s.kernel.waits.tokens token ≡ Some row → row.trigger.fs ≡ fs → row.kind ≡ Expire → (m : ℕ) → mounted_on s.kernel row.trigger ≡ Some m →
    umount_refusal (is_used s.kernel.uses) m s.kernel.table ≡ None → CanBeUnmounted s attach token row.trigger m
go s world fs attach served token row is same expire m stands may = record {
  from_pipe = λ queued in_queue.
      let t = takes_packet s world fs attach served token row is same queued in_queue in
      let on = job_on s world fs attach served token row is same queued in_queue in
      let asks = asks_for s world fs attach served token row is same queued in_queue in
      let says : mounted_in (record_of s.daemon.book row.trigger) ≡ Some m =
      sym (said_of_queued s world fs attach served token queued in_queue row.trigger asks (ap (λ (g : Trigger). g.fs) asks ∙ same)) ∙ stands in
      let plan : t.job.plan ≡ unmounting t.job.trigger m =
      plan_is s world fs attach served token row is same queued in_queue
      ∙ ap (λ (kind : TokenKind). plan_for kind row.trigger (mounted_in (record_of s.daemon.book row.trigger)) (entry_of s.daemon row.trigger)) expire
      ∙ ap (expire_plan row.trigger) says ∙ ap (λ (g : Trigger). unmounting g m) (sym on) in
      let taken = next s (events.Deliver token None) in
      let left : umount_refusal (is_used taken.kernel.uses) m taken.kernel.table ≡ None = subst (λ (k : KernelState). umount_refusal (is_used k.uses) m k.table ≡ None) (sym t.kernel) may in (
        t.done,
        subst (λ (g : Trigger). AllCome (unmounting g m) m token (CanTrapAgain s attach token g) taken) on (umount_comes s taken fs attach token m t.job t.served plan left m),
      );
  from_job = λ job is_job e.
      let h = serves_token s world fs attach served token row is same job is_job in
      let on = on_its_row s fs attach token job s.kernel.waits h row is in
      let whole = umount_whole job.trigger row.trigger job.plan (its_acts s token job (served_acts s fs attach token job s.kernel.waits h)).umounts e in
      let there : mounted_on s.kernel job.trigger ≡ Some whole.0 = stands_there s fs attach token whole.0 job h whole.1 None in
      let one : whole.0 ≡ m = some_injective (sym there ∙ ap (mounted_on s.kernel) on ∙ stands) in
      let left : umount_refusal (is_used s.kernel.uses) whole.0 s.kernel.table ≡ None = ap (λ (n : ℕ). umount_refusal (is_used s.kernel.uses) n s.kernel.table) one ∙ may in
      subst (λ (g : Trigger). AllCome job.plan m token (CanTrapAgain s attach token g) s) on
      (subst (λ (p : Plan). AllCome p m token (CanTrapAgain s attach token job.trigger) s) (sym whole.1) (umount_comes s s fs attach token whole.0 job h whole.1 left m));
}

-- ---- the law

can_come_and_go : (s : State) → IsWorld s → MountsCanComeAndGo s
can_come_and_go s world = record { come = come s world; go = go s world }

pub come_and_go : MountsComeAndGo
come_and_go = after_runs MountsCanComeAndGo can_come_and_go
