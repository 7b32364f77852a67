-- What an expiry leaves, whatever others do between the acts of its job.
use Rattle.std.proofs.Common.{◌≡◌, ℕ, zero, suc, List, Option, Some, None, refl, ap, subst, inl, inr, ⊎_elim, ◌∙◌}
use Rattle.am_names.specs.declared.fail_no.FailNo.{FailNo}
use Rattle.am_names.specs.declared.trigger.Trigger.{Trigger}
use Rattle.am_names.specs.{Status}
use Rattle.am_names.specs.declared.trigger.Status.TheVariants.{Ready, Fail}
use Rattle.am_state.specs.{Record, RecordRow}
use Rattle.am_state.specs.declared.daemon_row.Record.TheVariants.{Mounted}
use Rattle.am_trigger.specs.{FailureRows, failure_of}
use Rattle.am_wait.specs.{WaitRows}
use Rattle.am_kernel.specs.{KernelState, mounted_on}
use Rattle.am_job.specs.{next_of, rest_of, record_of, reply, at_directory, book_and_reply, unmounting}
use Rattle.am_job.specs.declared.act.Act.TheVariants as act
use Rattle.am_job.specs.declared.act.Outcome as outcomes
use Rattle.am_job.specs.declared.act.Outcome.TheVariants as came
use Rattle.am_daemon.specs.{JobPlan, is_pending, mounted_in, walked}
use Rattle.am_machine.specs.declared.event.Event.TheVariants as events
use Rattle.am_machine.specs.State.{State}
use Rattle.am_machine.specs.EventOutcome.{EventOutcome}
use Rattle.am_machine.specs.{outcome_of}
use Rattle.am_progress.specs.{IsTrapAgain, LeadsAmong, OthersAct, IsStillMounted, EndsAmong, ExpiriesEndAmong, ExpiriesEndAmongOthers, next}
use Rattle.am_progress.proofs.Plans.{umount_whole}
use Rattle.am_progress.proofs.Jobs.{its_acts}
use Rattle.am_progress.proofs.Tokens.{Served, served_acts, its_act, act_done, act_goes}
use Rattle.am_progress.proofs.Expiries.{act_kernel, record_is_written, record_next, reply_book, reply_closes, reply_served, reply_world, stands_there, good_before, trap_again}
use Rattle.am_progress.proofs.Comings.{umount_leaves}
use Rattle.am_progress.proofs.Among.{run_jobs}
use Rattle.am_progress.proofs.Kept.{IsKept, run_keeps}
use Rattle.am_progress.proofs.Worlds.{IsWorld, run_world, after_runs}

module _ (fs attach token : ℕ) where
  -- ---- what others leave

  renewed : (s : State) (row : JobPlan) (w : WaitRows) → Served s fs attach token row w → Served s fs attach token row s.kernel.waits
  renewed s row w h = record { world = h.world; served = h.served; is_job = h.is_job; fs_is = h.fs_is; attach_is = h.attach_is; waits = refl }

  still : (s mid : State) (row : JobPlan) → Served s fs attach token row s.kernel.waits → OthersAct fs attach token s mid → Served mid fs attach token row mid.kernel.waits
  still s mid row h o = record {
    world = run_world s o.events o.answers mid o.run o.paths h.world;
    served = o.served;
    is_job = run_jobs s o.events o.answers mid o.run token row o.others h.is_job;
    fs_is = h.fs_is;
    attach_is = h.attach_is;
    waits = refl;
  }

  kept : (s mid : State) (row : JobPlan) → Served s fs attach token row s.kernel.waits → OthersAct fs attach token s mid → IsKept s mid fs attach row.trigger
  kept s mid row h o =
      run_keeps s o.events o.answers mid o.run o.paths fs attach token row (record { world = h.world; is_job = h.is_job; fs_is = h.fs_is; attach_is = h.attach_is }) o.others o.served

  more_among : (acts : ℕ) (goal : State → Type 0) (s : State) → LeadsAmong acts fs attach token goal s → LeadsAmong (suc acts) fs attach token goal s
  more_among zero goal s h = inl h
  more_among (suc acts) goal s (inl here) = inl here
  more_among (suc acts) goal s (inr later) =
      inr (λ mid o failure. ((later mid o failure).0, more_among acts goal (next mid (events.Act token failure)) (later mid o failure).1))

  -- ---- the record and the reply

  -- the job is about to acknowledge: the record is written, and no failure is new
  record IsWritten (s : State) (row : JobPlan) (entry : Option Record) (status : Status) (mid : State) : Type 0 where
    left : JobPlan
    served : Served mid fs attach token left mid.kernel.waits
    on : left.trigger ≡ row.trigger
    plan : left.plan ≡ reply status
    written : record_of mid.daemon.book left.trigger ≡ entry
    good : failure_of s.kernel.failures row.trigger ≡ None → failure_of mid.kernel.failures left.trigger ≡ None

  book_among : (entry : Option Record) (status : Status) (goal : State → Type 0) (s : State) (row : JobPlan) → Served s fs attach token row s.kernel.waits → row.plan ≡ book_and_reply row.trigger entry status →
      ((mid : State) → IsWritten s row entry status mid → (failure : Option FailNo) → goal (next mid (events.Act token failure))) → LeadsAmong 2 fs attach token goal s
  book_among entry status goal s row h plan finish =
      inr (λ mid o failure.
      let here = still s mid row h o in
      let n = next mid (events.Act token failure) in
      let m = record_is_written mid fs attach token row mid.kernel.waits here entry status plan failure in
      let before = kept s mid row h o in (
        act_done mid fs attach token row mid.kernel.waits here failure (act.Record row.trigger entry) (record_next mid fs attach token row mid.kernel.waits here entry status plan),
        inr (λ later p again.
            let served = renewed n m.left mid.kernel.waits m.served in
            let there = still n later m.left served p in
            let k = kept n later m.left served p in (
              act_done later fs attach token m.left later.kernel.waits there again (act.Reply status) (ap next_of m.plan),
              finish later
                  (record {
                    left = m.left;
                    served = there;
                    on = m.on;
                    plan = m.plan;
                    written = k.written ∙ ap (record_of n.daemon.book) m.on ∙ m.written;
                    good = λ none. k.good (ap (λ (k : KernelState). failure_of k.failures m.left.trigger) m.kernel ∙ ap (failure_of mid.kernel.failures) m.on ∙ before.good none);
                  })
                  again,
            )),
      ))

  -- ---- an unmount that fails

  mount_is_left : (s : State) (row : JobPlan) (mount : ℕ) (error : FailNo) → Served s fs attach token row s.kernel.waits → row.plan ≡ book_and_reply row.trigger (Some (Mounted mount)) (Fail error) → LeadsAmong 2 fs attach token (IsStillMounted token row.trigger mount) s
  mount_is_left s row mount error h plan =
      book_among (Some (Mounted mount)) (Fail error) (IsStillMounted token row.trigger mount) s row h plan
      (λ mid m failure.
      let w = mid.kernel.waits in
      let new = next mid (events.Act token failure) in
      let said : record_of new.daemon.book m.left.trigger ≡ Some (Mounted mount) =
      ap (λ (book : List RecordRow). record_of book m.left.trigger) (reply_book mid fs attach token m.left w m.served (Fail error) m.plan failure) ∙ m.written in
      let world = reply_world mid fs attach token m.left w m.served (Fail error) m.plan failure in
      let served = reply_served mid fs attach token m.left w m.served (Fail error) m.plan failure in
      let there : mounted_on new.kernel m.left.trigger ≡ Some mount =
      world.consistent.agreed.stands.settled fs attach served m.left.trigger m.served.fs_is (ap is_pending said) ∙ ap mounted_in said in
      subst (λ (g : Trigger). IsStillMounted token g mount new) m.on
      (record { mounted = there; written = said; closed = reply_closes mid fs attach token m.left w m.served (Fail error) m.plan failure }))

  -- ---- an unmount that has come

  trap_is_left : (s : State) (row : JobPlan) → Served s fs attach token row s.kernel.waits → row.plan ≡ book_and_reply row.trigger None Ready → failure_of s.kernel.failures row.trigger ≡ None → LeadsAmong 2 fs attach token (IsTrapAgain attach token row.trigger) s
  trap_is_left s row h plan good =
      book_among None Ready (IsTrapAgain attach token row.trigger) s row h plan
      (λ mid m failure.
      subst (λ (g : Trigger). IsTrapAgain attach token g (next mid (events.Act token failure))) m.on
      (trap_again mid fs attach token m.left mid.kernel.waits m.served failure m.plan m.written (m.good good)))

  umounted_by_name : (name : Option (List ℕ)) (s : State) (row : JobPlan) → Served s fs attach token row s.kernel.waits → row.trigger.name ≡ name → row.plan ≡ at_directory name (act.Rmdir row.trigger) (book_and_reply row.trigger None Ready) → failure_of s.kernel.failures row.trigger ≡ None →
      LeadsAmong 3 fs attach token (IsTrapAgain attach token row.trigger) s
  umounted_by_name None s row h named plan good = more_among 2 (IsTrapAgain attach token row.trigger) s (trap_is_left s row h plan good)
  umounted_by_name (Some name) s row h named plan good =
      inr (λ mid o failure.
      let w = mid.kernel.waits in
      let here = still s mid row h o in
      let e : next_of row.plan ≡ Some (act.Rmdir row.trigger) = ap next_of plan in
      let d = its_act mid fs attach token row w here failure (act.Rmdir row.trigger) e in
      let n = next mid (events.Act token failure) in (
        act_done mid fs attach token row w here failure (act.Rmdir row.trigger) e,
        trap_is_left n (walked d.came row) (renewed n (walked d.came row) w (act_goes mid fs attach token row w here failure (act.Rmdir row.trigger) e refl refl))
            (ap (λ (o : outcomes.Outcome). rest_of o row.plan) d.told.0 ∙ ap (rest_of came.Done) plan)
            (ap (λ (k : KernelState). failure_of k.failures row.trigger) (act_kernel mid fs attach token row w here failure (act.Rmdir row.trigger) e)
            ∙ ap (λ (rows : FailureRows). failure_of rows row.trigger) d.leaves ∙ (kept s mid row h o).good good),
      ))

  -- ---- the unmount

  ends_among : (mid : State) (row : JobPlan) (mount : ℕ) → Served mid fs attach token row mid.kernel.waits → row.plan ≡ unmounting row.trigger mount → (failure : Option FailNo) → EndsAmong fs attach token row.trigger mount mid (outcome_of mid (events.Act token failure))
  ends_among mid row mount h plan failure =
      let w = mid.kernel.waits in
      let g = row.trigger in
      let e : next_of row.plan ≡ Some (act.Umount g) = ap next_of plan in
      let d = its_act mid fs attach token row w h failure (act.Umount g) e in
      let n = next mid (events.Act token failure) in
      let left = renewed n (walked d.came row) w (act_goes mid fs attach token row w h failure (act.Umount g) e refl refl) in
      let answer : (outcome_of mid (events.Act token failure)).answer ≡ d.answer = ap (λ (o : EventOutcome). o.answer) d.is in
      ⊎_elim
      (λ umounted. inr (
        answer ∙ umounted.1,
        umounted_by_name g.name n (walked d.came row) left refl (ap (λ (o : outcomes.Outcome). rest_of o row.plan) umounted.0 ∙ ap (rest_of came.Done) plan)
            (ap (λ (k : KernelState). failure_of k.failures g) (act_kernel mid fs attach token row w h failure (act.Umount g) e)
            ∙ ap (λ (rows : FailureRows). failure_of rows g) (umount_leaves d.came g row.token mid.kernel d.made umounted.0 d.leaves) ∙ good_before mid fs attach token mount row h plan failure),
      ))
      (λ failed. inl (
        answer ∙ failed.2,
        mount_is_left n (walked d.came row) mount failed.0 left (ap (λ (o : outcomes.Outcome). rest_of o row.plan) failed.1 ∙ ap (rest_of (came.Failed failed.0)) plan),
      ))
      d.told

expiries_end_among : (s : State) → IsWorld s → ExpiriesEndAmong s
expiries_end_among s world fs attach served job row is same own e =
    let h : Served s fs attach job row s.kernel.waits = record { world = world; served = served; is_job = is; fs_is = same; attach_is = own; waits = refl } in
    let whole = umount_whole row.trigger row.trigger row.plan (its_acts s job row (served_acts s fs attach job row s.kernel.waits h)).umounts e in
    record {
      mount = whole.0;
      stands = stands_there s fs attach job whole.0 row h whole.1 None;
      ends = λ mid o.
          let here = still fs attach job s mid row h o in
          (stands_there mid fs attach job whole.0 row here whole.1 None, λ failure. ends_among fs attach job mid row whole.0 here whole.1 failure);
    }

pub expiries_leave_among : ExpiriesEndAmongOthers
expiries_leave_among = after_runs ExpiriesEndAmong expiries_end_among
