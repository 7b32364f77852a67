-- What an expiry leaves.
use Rattle.std.proofs.Common.{◌≡◌, ℕ, suc, zero, Bool, true, false, List, Option, Some, None, refl, sym, ap, subst, inl, inr, ⊎_elim, ◌∙◌}
use Rattle.std.specs.Prelude.{◌==◌, if◌then◌else◌}
use Rattle.std.specs.List.{All}
use Rattle.am_names.specs.declared.fail_no.FailNo.{FailNo}
use Rattle.am_names.specs.{same_trigger, Status, OpenToken, TokenKind, RiseBy}
use Rattle.am_names.specs.declared.trigger.Trigger.{Trigger}
use Rattle.am_names.specs.declared.trigger.Status.TheVariants.{Ready, Fail}
use Rattle.am_names.specs.declared.row.TokenKind.TheVariants.{Missing, Expire}
use Rattle.am_names.proofs.SameTriggers.{same_trigger_itself}
use Rattle.am_names.proofs.Basics.{equal_to_itself, false_unless_true, some_injective}
use Rattle.am_state.specs.{Record}
use Rattle.am_state.specs.declared.daemon_row.Record.TheVariants.{Mounted}
use Rattle.am_mount.specs.{top_of}
use Rattle.am_propagate.specs.MountTable.{MountTable}
use Rattle.am_trigger.specs.{TriggerRows, autofs_of, place_of, FailureRows, failure_of}
use Rattle.am_wait.specs.{WaitRows, token_of, answered}
use Rattle.am_wait.proofs.FindLemmas.{token_taken}
use Rattle.am_wait.proofs.KeptLemmas.{all_found}
use Rattle.am_kernel.specs.{settled_by, KernelState, attach_of, location_in, mounted_on, acknowledged}
use Rattle.am_job.specs.{Act, record_of, next_of, rest_of, claims, at_directory, reply, book_and_reply, after_umount, after_failed_umount, unmounting}
use Rattle.am_job.specs.declared.act.Act.TheVariants as act
use Rattle.am_job.specs.declared.act.Outcome as outcomes
use Rattle.am_job.specs.declared.act.Outcome.TheVariants as came
use Rattle.am_daemon.specs.{JobPlan, next_in, writes, writing_of, book_after, walked, is_pending, mounted_in}
use Rattle.am_machine.specs.declared.event.Event.TheVariants as events
use Rattle.am_machine.specs.State.{State}
use Rattle.am_machine.specs.EventOutcome.{EventOutcome}
use Rattle.am_kernel.specs.Requests.{settled}
use Rattle.am_machine.specs.{after, outcome_of, has_record_left, IsServed, SuitsItsToken, IsAwaited, IsMended}
use Rattle.am_machine.proofs.Planned.Rests.{umount_left}
use Rattle.am_machine.proofs.Books.Pending.{recorded_is}
use Rattle.am_machine.proofs.Lists.Found.{some_unless}
use Rattle.am_machine.proofs.Lists.Different as different
use Rattle.am_machine.proofs.TriggerMounts.Unchanged.{attached_autofs}
use Rattle.am_machine.proofs.Failures.Acts.{unmounting_is_no_missing}
use Rattle.am_machine.proofs.Failures.Unchanged.{still_mended}
use Rattle.am_progress.specs.{next, LeadsTo, IsAsFound, IsTrapAgain, EndsWell, ExpiriesEndWell, ExpiriesLeaveTrapOrMount}
use Rattle.am_progress.proofs.Plans.{umount_whole}
use Rattle.am_progress.proofs.Triggers.Walks.{IsSite}
use Rattle.am_progress.proofs.Jobs.{its_acts, its_token, on_its_token, its_site, job_number}
use Rattle.am_progress.proofs.Acts.{Does, LeavesKernel}
use Rattle.am_progress.proofs.Tokens.{Served, served_acts, its_act, act_done, act_world, act_served, act_waits, act_goes}
use Rattle.am_progress.proofs.Worlds.{IsWorld, after_runs}
use Rattle.am_progress.proofs.Traps.{notifies}

-- ---- what an act leaves of the book and of the kernel

module _ (s : State) (fs attach token : ℕ) (row : JobPlan) (w : WaitRows) (h : Served s fs attach token row w) (failure : Option FailNo) (a : Act) (e : next_of row.plan ≡ Some a) where
  pub act_kernel : (next s (events.Act token failure)).kernel ≡ (its_act s fs attach token row w h failure a e).made
  act_kernel = ap (λ (o : EventOutcome). (after s o).kernel) (its_act s fs attach token row w h failure a e).is

  pub act_book : (next s (events.Act token failure)).daemon.book ≡ book_after (writes (Some a)) s.daemon.book
  act_book =
      let acting = served_acts s fs attach token row w h in
      ap (λ (o : EventOutcome). (after s o).daemon.book) (its_act s fs attach token row w h failure a e).is
      ∙ ap (λ (n : ℕ). book_after (writing_of n s.daemon) s.daemon.book) (job_number s token row acting)
      ∙ ap (λ (o : Option JobPlan). book_after (writes (next_in o)) s.daemon.book) h.is_job
      ∙ ap (λ (o : Option Act). book_after (writes o) s.daemon.book) e

-- what stands on a trigger is told by the mounts and the autofs
stood_as : (k made : KernelState) (g : Trigger) → made.table ≡ k.table → made.triggers ≡ k.triggers → mounted_on made g ≡ mounted_on k g
stood_as k made g table triggers =
    ap (λ (t : MountTable). top_of t.rows (location_in (autofs_of made.triggers g.fs)) (place_of g)) table
    ∙ ap (λ (t : TriggerRows). top_of k.table.rows (location_in (autofs_of t g.fs)) (place_of g)) triggers

-- ---- the book is written, and the token is acknowledged

-- a job that has its reply left alone, after it has written the record
pub record Wrote (s : State) (fs attach token : ℕ) (row : JobPlan) (w : WaitRows) (entry : Option Record) (status : Status) (new : State) : Type 0 where
  pub left : JobPlan
  pub served : Served new fs attach token left w
  pub on : left.trigger ≡ row.trigger
  pub plan : left.plan ≡ reply status
  pub kernel : new.kernel ≡ s.kernel
  pub written : record_of new.daemon.book row.trigger ≡ entry
  pub others : (g : Trigger) → same_trigger row.trigger g ≡ false → record_of new.daemon.book g ≡ record_of s.daemon.book g

module _ (s : State) (fs attach token : ℕ) (row : JobPlan) (w : WaitRows) (h : Served s fs attach token row w) (entry : Option Record) (status : Status) (plan : row.plan ≡ book_and_reply row.trigger entry status) where
  pub record_next : next_of row.plan ≡ Some (act.Record row.trigger entry)
  record_next = ap next_of plan

  pub record_is_written : (failure : Option FailNo) → Wrote s fs attach token row w entry status (next s (events.Act token failure))
  record_is_written failure =
      let a = act.Record row.trigger entry in
      let d = its_act s fs attach token row w h failure a record_next in
      record {
        left = walked d.came row;
        served = act_goes s fs attach token row w h failure a record_next refl refl;
        on = refl;
        plan = ap (λ (o : outcomes.Outcome). rest_of o row.plan) d.told.0 ∙ ap (rest_of came.Done) plan;
        kernel = act_kernel s fs attach token row w h failure a record_next ∙ d.leaves;
        written =
            ap (λ (book : List _). record_of book row.trigger) (act_book s fs attach token row w h failure a record_next)
            ∙ recorded_is row.trigger entry s.daemon.book row.trigger
            ∙ ap (λ (b : Bool). if b then entry else record_of s.daemon.book row.trigger) (same_trigger_itself row.trigger);
        others = λ g other.
            ap (λ (book : List _). record_of book g) (act_book s fs attach token row w h failure a record_next)
            ∙ recorded_is row.trigger entry s.daemon.book g
            ∙ ap (λ (b : Bool). if b then entry else record_of s.daemon.book g) other;
      }

  -- and then what the reply leaves
  ends_as : (goal : State → Type 0) → ((mid : State) (m : Wrote s fs attach token row w entry status mid) (failure : Option FailNo) → goal (next mid (events.Act token failure))) → LeadsTo 2 token goal s
  ends_as goal finish =
      inr (λ failure.
      let m = record_is_written failure in (
        act_done s fs attach token row w h failure (act.Record row.trigger entry) record_next,
        inr (λ again. (act_done (next s (events.Act token failure)) fs attach token m.left w m.served again (act.Reply status) (ap next_of m.plan), finish (next s (events.Act token failure)) m again)),
      ))

-- the token is closed by the reply
module _ (s : State) (fs attach token : ℕ) (row : JobPlan) (w : WaitRows) (h : Served s fs attach token row w) (status : Status) (plan : row.plan ≡ reply status) (failure : Option FailNo) where
  pub reply_next : next_of row.plan ≡ Some (act.Reply status)
  reply_next = ap next_of plan

  pub reply_waits : (next s (events.Act token failure)).kernel.waits ≡ answered token status w
  reply_waits = act_waits s fs attach token row w h failure (act.Reply status) reply_next

  pub reply_closes : token_of (next s (events.Act token failure)).kernel.waits.tokens token ≡ None
  reply_closes = ap (λ (v : WaitRows). token_of v.tokens token) reply_waits ∙ token_taken token w.tokens token true (equal_to_itself token)

  pub reply_kernel : (next s (events.Act token failure)).kernel ≡ acknowledged row.token status s.kernel
  reply_kernel = act_kernel s fs attach token row w h failure (act.Reply status) reply_next ∙ (its_act s fs attach token row w h failure (act.Reply status) reply_next).leaves

  pub reply_book : (next s (events.Act token failure)).daemon.book ≡ s.daemon.book
  reply_book = act_book s fs attach token row w h failure (act.Reply status) reply_next

  pub reply_world : IsWorld (next s (events.Act token failure))
  reply_world = act_world s fs attach token row w h failure (act.Reply status) reply_next

  pub reply_served : IsServed (next s (events.Act token failure)).kernel (next s (events.Act token failure)).daemon fs attach
  reply_served = act_served s fs attach token row w h failure (act.Reply status) reply_next

-- ---- an unmount that fails

-- the world in which the job was about to unmount, and the one in which its unmount has failed
module _ (old s : State) (fs attach token : ℕ) (row : JobPlan) (h : Served s fs attach token row old.kernel.waits) (mount : ℕ) (error : FailNo) (plan : row.plan ≡ after_failed_umount row.trigger mount error) (kernel : s.kernel ≡ old.kernel) (book : s.daemon.book ≡ old.daemon.book) (stood : mounted_on old.kernel row.trigger ≡ Some mount) where
  leads_to_what_was_found : LeadsTo 2 token (IsAsFound old token row.trigger mount) s
  leads_to_what_was_found =
      ends_as s fs attach token row old.kernel.waits h (Some (Mounted mount)) (Fail error) plan (IsAsFound old token row.trigger mount)
      (λ mid m failure.
      let new = next mid (events.Act token failure) in
      let same = reply_kernel mid fs attach token m.left old.kernel.waits m.served (Fail error) m.plan failure in
      let table : new.kernel.table ≡ old.kernel.table = ap (λ (k : KernelState). k.table) same ∙ ap (λ (k : KernelState). k.table) (m.kernel ∙ kernel) in
      let triggers : new.kernel.triggers ≡ old.kernel.triggers = ap (λ (k : KernelState). k.triggers) same ∙ ap (λ (k : KernelState). k.triggers) (m.kernel ∙ kernel) in
      record {
        table = table;
        triggers = triggers;
        mounted = stood_as old.kernel new.kernel row.trigger table triggers ∙ stood;
        written = ap (λ (book : List _). record_of book row.trigger) (reply_book mid fs attach token m.left old.kernel.waits m.served (Fail error) m.plan failure) ∙ m.written;
        others = λ g other.
            ap (λ (rows : List _). record_of rows g) (reply_book mid fs attach token m.left old.kernel.waits m.served (Fail error) m.plan failure)
            ∙ m.others g other ∙ ap (λ (rows : List _). record_of rows g) book;
        closed = reply_closes mid fs attach token m.left old.kernel.waits m.served (Fail error) m.plan failure;
      })

-- ---- an unmount that has come

-- READY leaves no failure where there was none
ready_keeps : (kind : TokenKind) (trigger g : Trigger) (moment : ℕ) (rows : FailureRows) → failure_of rows g ≡ None → failure_of (settled kind trigger Ready moment rows) g ≡ None
ready_keeps Missing trigger g moment rows none = still_mended trigger g rows none
ready_keeps Expire trigger g moment rows none = none

module _ (s : State) (fs attach token : ℕ) (row : JobPlan) (w : WaitRows) (h : Served s fs attach token row w) where
  -- the job's token was the one on its trigger
  pub off_by_cases : (new : WaitRows) (status : Status) → new ≡ answered token status w → RiseBy (λ (r : OpenToken). r.token) 0 new.tokens → All (λ (r : OpenToken). same_trigger r.trigger row.trigger ≡ false) new.tokens
  off_by_cases new status same rise =
      all_found (λ (r : OpenToken). same_trigger r.trigger row.trigger ≡ false) (λ (r : OpenToken). r.token) 0 new.tokens rise
      (λ r found.
      let acting = served_acts s fs attach token row w h in
      let its = its_token s token row acting in
      let left = some_unless (token == r.token) (token_of w.tokens r.token) r (sym (token_taken token w.tokens r.token (token == r.token) refl) ∙ sym (ap (λ (v : WaitRows). token_of v.tokens r.token) same) ∙ found) in
      let was : token_of s.kernel.waits.tokens r.token ≡ Some r = ap (λ (v : WaitRows). token_of v.tokens r.token) h.waits ∙ left.1 in
      false_unless_true (same_trigger r.trigger row.trigger)
      (λ both.
      let one : r.token ≡ row.token = h.world.consistent.agreed.tokens.once r.token row.token r its.token was its.is_open (subst (λ (g : Trigger). same_trigger r.trigger g ≡ true) (on_its_token s token row acting) both) in
      let is : (token == r.token) ≡ true = subst (λ (n : ℕ). (token == n) ≡ true) (sym (one ∙ job_number s token row acting)) (equal_to_itself token) in
      let no = left.0 in
      absurd cc))

module _ (s : State) (fs attach token : ℕ) (row : JobPlan) (w : WaitRows) (h : Served s fs attach token row w) (failure : Option FailNo) (plan : row.plan ≡ reply Ready) (written : record_of s.daemon.book row.trigger ≡ None) (good : failure_of s.kernel.failures row.trigger ≡ None) where
  pub trap_again : IsTrapAgain attach token row.trigger (next s (events.Act token failure))
  trap_again =
      let new = next s (events.Act token failure) in
      let world = reply_world s fs attach token row w h Ready plan failure in
      let served = reply_served s fs attach token row w h Ready plan failure in
      let same = reply_kernel s fs attach token row w h Ready plan failure in
      let current : attach_of new.kernel row.trigger.fs ≡ Some attach = ap (attach_of new.kernel) h.fs_is ∙ served.current in
      let none : record_of new.daemon.book row.trigger ≡ None = ap (λ (book : List _). record_of book row.trigger) (reply_book s fs attach token row w h Ready plan failure) ∙ written in
      let free : mounted_on new.kernel row.trigger ≡ None =
      world.consistent.agreed.stands.settled fs attach served row.trigger h.fs_is (ap is_pending none) ∙ ap mounted_in none in
      let acting = served_acts s fs attach token row w h in
      let its = its_token s token row acting in
      let well : failure_of new.kernel.failures row.trigger ≡ None =
      ap (λ (k : KernelState). failure_of k.failures row.trigger) same
      ∙ ap (λ (o : Option OpenToken). failure_of (settled_by o Ready s.kernel.latest s.kernel.failures) row.trigger) its.is_open
      ∙ ready_keeps its.token.kind its.token.trigger row.trigger s.kernel.latest s.kernel.failures good in
      let site : IsSite new.kernel.triggers row.trigger =
      subst (λ (k : KernelState). IsSite k.triggers row.trigger) (sym same) (its_site s token row (served_acts s fs attach token row w h)) in
      record {
        free = free;
        notifies = notifies new world attach row.trigger current site (off_by_cases s fs attach token row w h new.kernel.waits Ready (reply_waits s fs attach token row w h Ready plan failure) world.consistent.traced.fits.sound.tokens) free well;
        attached = current;
        closed = reply_closes s fs attach token row w h Ready plan failure;
      }

more_acts : (acts job : ℕ) (goal : State → Type 0) (s : State) → LeadsTo acts job goal s → LeadsTo (suc acts) job goal s
more_acts zero job goal s h = inl h
more_acts (suc acts) job goal s (inl here) = inl here
more_acts (suc acts) job goal s (inr later) = inr (λ failure. ((later failure).0, more_acts acts job goal (next s (events.Act job failure)) (later failure).1))

-- the record is written, and the reply ends it
written_trap : (s : State) (fs attach token : ℕ) (row : JobPlan) (w : WaitRows) (h : Served s fs attach token row w) → row.plan ≡ book_and_reply row.trigger None Ready → failure_of s.kernel.failures row.trigger ≡ None → LeadsTo 2 token (IsTrapAgain attach token row.trigger) s
written_trap s fs attach token row w h plan good =
    ends_as s fs attach token row w h None Ready plan (IsTrapAgain attach token row.trigger)
    (λ mid m failure.
    subst (λ (g : Trigger). IsTrapAgain attach token g (next mid (events.Act token failure))) m.on
    (trap_again mid fs attach token m.left w m.served failure m.plan (ap (record_of mid.daemon.book) m.on ∙ m.written)
    (ap (λ (k : KernelState). failure_of k.failures m.left.trigger) m.kernel ∙ ap (failure_of s.kernel.failures) m.on ∙ good)))

umounted_by_cases : (name : Option (List ℕ)) (s : State) (fs attach token : ℕ) (row : JobPlan) (w : WaitRows) (h : Served s fs attach token row w) → row.trigger.name ≡ name → row.plan ≡ after_umount row.trigger → failure_of s.kernel.failures row.trigger ≡ None → LeadsTo 3 token (IsTrapAgain attach token row.trigger) s
umounted_by_cases None s fs attach token row w h named plan good =
    more_acts 2 token (IsTrapAgain attach token row.trigger) s
    (written_trap s fs attach token row w h (plan ∙ ap (λ (n : Option (List ℕ)). at_directory n (act.Rmdir row.trigger) (book_and_reply row.trigger None Ready)) named) good)
umounted_by_cases (Some name) s fs attach token row w h named plan good =
    inr (λ failure.
    let here = plan ∙ ap (λ (n : Option (List ℕ)). at_directory n (act.Rmdir row.trigger) (book_and_reply row.trigger None Ready)) named in
    let e : next_of row.plan ≡ Some (act.Rmdir row.trigger) = ap next_of here in
    let d = its_act s fs attach token row w h failure (act.Rmdir row.trigger) e in (
      act_done s fs attach token row w h failure (act.Rmdir row.trigger) e,
      written_trap (next s (events.Act token failure)) fs attach token (walked d.came row) w (act_goes s fs attach token row w h failure (act.Rmdir row.trigger) e refl refl)
          (ap (λ (o : outcomes.Outcome). rest_of o row.plan) d.told.0 ∙ ap (rest_of came.Done) here)
          (ap (λ (k : KernelState). failure_of k.failures row.trigger) (act_kernel s fs attach token row w h failure (act.Rmdir row.trigger) e) ∙ ap (λ (rows : FailureRows). failure_of rows row.trigger) d.leaves ∙ good),
    ))

-- ---- a job that unmounts

module _ (s : State) (fs attach token mount : ℕ) (row : JobPlan) (h : Served s fs attach token row s.kernel.waits) (plan : row.plan ≡ unmounting row.trigger mount) (failure : Option FailNo) where
  abbrev umount_next : next_of row.plan ≡ Some (act.Umount row.trigger)
  umount_next = ap next_of plan

  abbrev its_umount : Does s row (act.Umount row.trigger) (outcome_of s (events.Act token failure))
  its_umount = its_act s fs attach token row s.kernel.waits h failure (act.Umount row.trigger) umount_next

  then_left : Served (next s (events.Act token failure)) fs attach token (walked its_umount.came row) s.kernel.waits
  then_left = act_goes s fs attach token row s.kernel.waits h failure (act.Umount row.trigger) umount_next refl refl

  answer_is : (outcome_of s (events.Act token failure)).answer ≡ its_umount.answer
  answer_is = ap (λ (o : EventOutcome). o.answer) its_umount.is

  pub stands_there : mounted_on s.kernel row.trigger ≡ Some mount
  stands_there =
      h.world.consistent.agreed.stands.at_work fs attach h.served token row h.is_job h.fs_is h.attach_is (ap has_record_left plan ∙ umount_left row.trigger mount) ∙ ap claims plan

  leaves_kernel : (outcome : outcomes.Outcome) (error : FailNo) (made : KernelState) → outcome ≡ came.Failed error → LeavesKernel (act.Umount row.trigger) outcome row.token s.kernel made → made ≡ s.kernel
  leaves_kernel came.Done error made e leaves = absurd cc
  leaves_kernel (came.Made m) error made e leaves = absurd cc
  leaves_kernel (came.Failed other) error made e leaves = leaves

  pub umount_failures : (outcome : outcomes.Outcome) (made : KernelState) → outcome ≡ came.Done → LeavesKernel (act.Umount row.trigger) outcome row.token s.kernel made → made.failures ≡ s.kernel.failures
  umount_failures came.Done made e leaves = leaves
  umount_failures (came.Made m) made e leaves = absurd cc
  umount_failures (came.Failed other) made e leaves = absurd cc

  -- no mount is asked for on the trigger of a job that unmounts
  not_awaited : IsAwaited s.kernel.waits.tokens row.trigger → ⊥
  not_awaited awaited =
      let acting = served_acts s fs attach token row s.kernel.waits h in
      let its = its_token s token row acting in
      let suits = different.all_found (SuitsItsToken s.kernel.waits) (λ (r : JobPlan). r.token == token) s.daemon.jobs row h.world.failures.suited h.is_job in
      let on : awaited.row.trigger ≡ its.token.trigger = awaited.asks ∙ on_its_token s token row acting in
      let one : awaited.token ≡ row.token =
      h.world.consistent.agreed.tokens.once awaited.token row.token awaited.row its.token awaited.is_open its.is_open
      (subst (λ (g : Trigger). same_trigger awaited.row.trigger g ≡ true) on (same_trigger_itself awaited.row.trigger)) in
      let same : awaited.row ≡ its.token = some_injective (sym awaited.is_open ∙ ap (token_of s.kernel.waits.tokens) one ∙ its.is_open) in
      unmounting_is_no_missing row.plan row.trigger its.token.kind umount_next (suits.acts its.token its.is_open) (ap (λ (r : OpenToken). r.kind) (sym same) ∙ awaited.kind)

  -- so no failure is kept of it
  is_good : IsMended s.kernel row.trigger → failure_of s.kernel.failures row.trigger ≡ None
  is_good (inl none) = none
  is_good (inr awaited) = absurd (not_awaited awaited)

  pub good_before : failure_of s.kernel.failures row.trigger ≡ None
  good_before =
      let a = attached_autofs s.kernel row.trigger.fs attach (ap (attach_of s.kernel) h.fs_is ∙ h.served.current) in
      is_good (h.world.failures.mended row.trigger a.0 mount a.1 stands_there)

  ends_well : EndsWell s attach token row.trigger mount (outcome_of s (events.Act token failure))
  ends_well =
      ⊎_elim
      (λ umounted. inr (
        answer_is ∙ umounted.1,
        umounted_by_cases row.trigger.name (next s (events.Act token failure)) fs attach token (walked its_umount.came row) s.kernel.waits then_left refl
            (ap (λ (o : outcomes.Outcome). rest_of o row.plan) umounted.0 ∙ ap (rest_of came.Done) plan)
            (ap (λ (k : KernelState). failure_of k.failures row.trigger) (act_kernel s fs attach token row s.kernel.waits h failure (act.Umount row.trigger) umount_next)
            ∙ ap (λ (rows : FailureRows). failure_of rows row.trigger) (umount_failures its_umount.came its_umount.made umounted.0 its_umount.leaves) ∙ good_before),
      ))
      (λ failed. inl (
        answer_is ∙ failed.2,
        leads_to_what_was_found s (next s (events.Act token failure)) fs attach token (walked its_umount.came row) then_left mount failed.0
            (ap (λ (o : outcomes.Outcome). rest_of o row.plan) failed.1 ∙ ap (rest_of (came.Failed failed.0)) plan)
            (act_kernel s fs attach token row s.kernel.waits h failure (act.Umount row.trigger) umount_next ∙ leaves_kernel its_umount.came failed.0 its_umount.made failed.1 its_umount.leaves)
            (act_book s fs attach token row s.kernel.waits h failure (act.Umount row.trigger) umount_next)
            stands_there,
      ))
      its_umount.told

expiries_end : (s : State) → IsWorld s → ExpiriesEndWell s
expiries_end s world fs attach served job row is same own e =
    let h : Served s fs attach job row s.kernel.waits = record { world = world; served = served; is_job = is; fs_is = same; attach_is = own; waits = refl } in
    let whole = umount_whole row.trigger row.trigger row.plan (its_acts s job row (served_acts s fs attach job row s.kernel.waits h)).umounts e in
    record {
      mount = whole.0;
      stands = stands_there s fs attach job whole.0 row h whole.1 None;
      ends = ends_well s fs attach job whole.0 row h whole.1;
    }

pub expiries_leave : ExpiriesLeaveTrapOrMount
expiries_leave = after_runs ExpiriesEndWell expiries_end
