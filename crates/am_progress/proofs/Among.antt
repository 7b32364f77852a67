-- Each open token can be closed among all that others do.
use Rattle.std.proofs.Common.{◌≡◌, ◌⊎◌, ℕ, zero, suc, true, false, List, [], ◌∷◌, Option, Some, None, refl, sym, ap, subst, inl, inr, ⊎_elim, ◌∙◌}
use Rattle.std.specs.Prelude.{◌==◌, is_some, if◌then◌else◌}
use Rattle.std.specs.List.{list_any}
use Rattle.am_names.specs.declared.fail_no.FailNo.{FailNo}
use Rattle.am_names.specs.declared.trigger.Trigger.{Trigger}
use Rattle.am_names.specs.{OpenToken}
use Rattle.am_names.proofs.Basics.{neither_of_or, equal_to_itself, some_injective, value_where_some}
use Rattle.am_wait.specs.{WaitRows, token_of}
use Rattle.am_wait.proofs.FindLemmas.{token_taken}
use Rattle.am_state.specs.{QueuedRow}
use Rattle.am_kernel.specs.{attach_of, queued_of}
use Rattle.am_job.specs.{Act, next_of}
use Rattle.am_job.specs.declared.act.Act.TheVariants as act
use Rattle.am_daemon.specs.{JobPlan, walked, job_of}
use Rattle.am_laws.specs.{queues, Has}
use Rattle.am_laws.proofs.Late.{queued_in_part}
use Rattle.am_machine.specs.{Event, Answer, Run, IsServed}
use Rattle.am_machine.specs.declared.event.Event.TheVariants as events
use Rattle.am_machine.specs.State.{State}
use Rattle.am_machine.proofs.Planned.Acts.{acknowledges}
use Rattle.am_machine.proofs.Lists.Different.{all_found}
use Rattle.am_machine.proofs.Tokens.Catatonic.{token_number}
use Rattle.am_machine.proofs.Agreement.Tokens.{in_pipe, queued_number}
use Rattle.am_progress.specs.{IsDone, next, HasActs, is_act_of, OthersAct, IsClosed, event_about, ClosesAmong, TokensCloseAmong, OpenTokensCloseAmongOthers}
use Rattle.am_progress.proofs.Closed.{run_adds, was_queued, stays_closed, same_trigger_later}
use Rattle.am_progress.proofs.Others.{jobs_stay}
use Rattle.am_progress.proofs.Plans.{IsOfPlan, more_acts}
use Rattle.am_progress.proofs.Jobs.{its_plan}
use Rattle.am_progress.proofs.Acts.{waits_after, next_is}
use Rattle.am_progress.proofs.Tokens.{Served, served_acts, its_act, act_done, act_world, act_waits, act_goes, no_act, acts_left_are_fewer, takes_packet}
use Rattle.am_progress.proofs.Worlds.{IsWorld, run_world, after_runs}

-- ---- what others leave

pub run_jobs : (old : State) (events : List Event) (answers : List Answer) (new : State) → Run old events answers new → (job : ℕ) (row : JobPlan) → list_any (is_act_of job) events ≡ false → job_of old.daemon.jobs job ≡ Some row → job_of new.daemon.jobs job ≡ Some row
run_jobs old [] [] new run job row others is = ap (λ (s : State). job_of s.daemon.jobs job) run ∙ is
run_jobs old (event ∷ events) (answer ∷ answers) new run job row others is =
    let both = neither_of_or (is_act_of job event) (list_any (is_act_of job) events) others in
    run_jobs run.0 events answers new run.3 job row both.1 (jobs_stay old event answer run.1 run.0 run.2 job row both.0 is)
run_jobs old [] (answer ∷ answers) new run job row others is = absurd run
run_jobs old (event ∷ events) [] new run job row others is = absurd run

-- a job under the attachment, with so many acts left at most
record HasJob (most fs attach token : ℕ) (s : State) : Type 0 where
  row : JobPlan
  is_job : job_of s.daemon.jobs token ≡ Some row
  fs_is : row.trigger.fs ≡ fs
  attach_is : row.attach ≡ attach
  few : HasActs most row.plan

-- a token that was queued is closed, or it has such a job
record Goes (most fs attach token : ℕ) (s : State) : Type 0 where
  world : IsWorld s
  queued : Has (queues token) s.trace
  left : (token_of s.kernel.waits.tokens token ≡ None) ⊎ HasJob most fs attach token s

module _ (fs attach token : ℕ) where
  queued_still : (s mid : State) → OthersAct fs attach token s mid → Has (queues token) s.trace → Has (queues token) mid.trace
  queued_still s mid o queued =
      let more = run_adds s o.events o.answers mid o.run in
      subst (Has (queues token)) (sym more.1) (queued_in_part token s.trace more.0 queued)

  world_still : (s mid : State) → OthersAct fs attach token s mid → IsWorld s → IsWorld mid
  world_still s mid o world = run_world s o.events o.answers mid o.run o.paths world

  -- what others do leaves it so
  goes_still : (most : ℕ) (s mid : State) → OthersAct fs attach token s mid → Goes most fs attach token s → Goes most fs attach token mid
  goes_still most s mid o h =
      let world = world_still s mid o h.world in
      let more = run_adds s o.events o.answers mid o.run in
      record {
        world = world;
        queued = queued_still s mid o h.queued;
        left = ⊎_elim
            (λ shut. inl (stays_closed s mid token more.0 h.world.consistent.traced world.consistent.traced more.1 h.queued shut))
            (λ job. inr (record { row = job.row; is_job = run_jobs s o.events o.answers mid o.run token job.row o.others job.is_job; fs_is = job.fs_is; attach_is = job.attach_is; few = job.few }))
            h.left;
      }

  -- nobody waits on a token that is closed
  is_closed : (s : State) → IsWorld s → token_of s.kernel.waits.tokens token ≡ None → IsClosed token s
  is_closed s world shut = record {
    closed = shut;
    unawaited = λ walker row is on still.
        let its = world.consistent.traced.fits.sound.same walker row is still in
        let there : token_of s.kernel.waits.tokens token ≡ Some its.0 = ap (token_of s.kernel.waits.tokens) (sym on) ∙ its.1 in
        absurd cc;
  }

  -- ---- an act of the job

  -- the packet of a token that a job has is in no pipe
  unqueued : (s : State) → IsWorld s → (row : JobPlan) → job_of s.daemon.jobs token ≡ Some row → queued_of s.kernel.queue token ≡ None
  unqueued s world row is = by (queued_of s.kernel.queue token) refl
    where
      by : (o : Option QueuedRow) → queued_of s.kernel.queue token ≡ o → o ≡ None
      by None e = refl
      by (Some packet) e =
          let none : job_of s.daemon.jobs token ≡ None = ap (job_of s.daemon.jobs) (sym (queued_number s.kernel token packet e)) ∙ (in_pipe s.kernel s.daemon world.consistent.agreed.tokens token packet e).untaken in
          absurd cc

  -- what the daemon's next event is to lead to
  abbrev Leads : ℕ → State → Event → Type 0
  Leads most s event = IsDone s event × Goes most fs attach token (next s event)

  seen_still : (s : State) (event : Event) → Has (queues token) s.trace → Has (queues token) (next s event).trace
  seen_still s event queued = queued_in_part token s.trace _ queued

  -- the job has one act less
  goes_job : (most : ℕ) (s : State) (row : JobPlan) (h : Served s fs attach token row s.kernel.waits) (failure : Option FailNo) (a : Act) (e : next_of row.plan ≡ Some a) → acknowledges a ≡ false → waits_after a token s.kernel.waits ≡ s.kernel.waits → Has (queues token) s.trace → HasActs (suc most) row.plan → Goes most fs attach token (next s (events.Act token failure))
  goes_job most s row h failure a e more same queued few =
      let d = its_act s fs attach token row s.kernel.waits h failure a e in
      let left = act_goes s fs attach token row s.kernel.waits h failure a e more same in
      record {
        world = left.world;
        queued = seen_still s (events.Act token failure) queued;
        left = inr (record { row = walked d.came row; is_job = left.is_job; fs_is = left.fs_is; attach_is = left.attach_is; few = acts_left_are_fewer s fs attach token most row.plan d.came few });
      }

  goes_by_cases : (most : ℕ) (s : State) (row : JobPlan) (h : Served s fs attach token row s.kernel.waits) (failure : Option FailNo) (a : Act) → next_of row.plan ≡ Some a → Has (queues token) s.trace → HasActs (suc most) row.plan → Goes most fs attach token (next s (events.Act token failure))
  goes_by_cases most s row h failure (act.Reply status) e queued few = record {
    world = act_world s fs attach token row s.kernel.waits h failure (act.Reply status) e;
    queued = seen_still s (events.Act token failure) queued;
    left = inl (ap (λ (w : WaitRows). token_of w.tokens token) (act_waits s fs attach token row s.kernel.waits h failure (act.Reply status) e) ∙ token_taken token s.kernel.waits.tokens token true (equal_to_itself token));
  }
  goes_by_cases most s row h failure (act.Mkdir t) e queued few = goes_job most s row h failure (act.Mkdir t) e refl refl queued few
  goes_by_cases most s row h failure (act.Mount t entry) e queued few = goes_job most s row h failure (act.Mount t entry) e refl refl queued few
  goes_by_cases most s row h failure (act.Umount t) e queued few = goes_job most s row h failure (act.Umount t) e refl refl queued few
  goes_by_cases most s row h failure (act.Rmdir t) e queued few = goes_job most s row h failure (act.Rmdir t) e refl refl queued few
  goes_by_cases most s row h failure (act.Record t entry) e queued few = goes_job most s row h failure (act.Record t entry) e refl refl queued few

  acts_on : (most : ℕ) (s : State) (row : JobPlan) → Served s fs attach token row s.kernel.waits → (failure : Option FailNo) → Has (queues token) s.trace → HasActs (suc most) row.plan → Leads most s (events.Act token failure)
  acts_on most s row h failure queued few =
      let coming = next_is row.plan (its_plan s token row (served_acts s fs attach token row s.kernel.waits h)).last in
      (act_done s fs attach token row s.kernel.waits h failure coming.0 coming.1, goes_by_cases most s row h failure coming.0 coming.1 queued few)

  -- its event is that act
  is_act : (failure : Option FailNo) (s : State) → queued_of s.kernel.queue token ≡ None → event_about token failure s ≡ events.Act token failure
  is_act failure s none = ap (λ (o : Option QueuedRow). if is_some o then events.Deliver token None else events.Act token failure) none

  is_delivery : (failure : Option FailNo) (s : State) (row : QueuedRow) → queued_of s.kernel.queue token ≡ Some row → event_about token failure s ≡ events.Deliver token None
  is_delivery failure s row is = ap (λ (o : Option QueuedRow). if is_some o then events.Deliver token None else events.Act token failure) is

  job_acts : (most : ℕ) (s : State) → IsWorld s → IsServed s.kernel s.daemon fs attach → Has (queues token) s.trace → HasJob (suc most) fs attach token s → (failure : Option FailNo) → Leads most s (event_about token failure s)
  job_acts most s world served queued job failure =
      subst (Leads most s) (sym (is_act failure s (unqueued s world job.row job.is_job)))
      (acts_on most s job.row (record { world = world; served = served; is_job = job.is_job; fs_is = job.fs_is; attach_is = job.attach_is; waits = refl }) failure queued job.few)

  -- ---- the token closes

  closes_among : (most : ℕ) (s : State) → Goes most fs attach token s → ClosesAmong most fs attach token s
  closes_among zero s h = λ mid o.
      let now = goes_still zero s mid o h in
      ⊎_elim (is_closed mid now.world)
      (λ job. absurd (no_act mid fs attach token mid job.row (record { world = now.world; served = o.served; is_job = job.is_job; fs_is = job.fs_is; attach_is = job.attach_is; waits = refl }) job.few))
      now.left
  closes_among (suc most) s h = λ mid o.
      let now = goes_still (suc most) s mid o h in
      ⊎_elim (λ shut. inl (is_closed mid now.world shut))
      (λ job. inr (λ failure.
      let leads = job_acts most mid now.world o.served now.queued job failure in
      (leads.0, closes_among most (next mid (event_about token failure mid)) leads.1)))
      now.left

  -- the first event takes the packet from the pipe, if nobody else has
  first : (mid : State) → IsWorld mid → IsServed mid.kernel mid.daemon fs attach → Has (queues token) mid.trace → (row : OpenToken) → token_of mid.kernel.waits.tokens token ≡ Some row → row.trigger.fs ≡ fs → (failure : Option FailNo) → Leads 5 mid (event_about token failure mid)
  first mid world served queued row is same failure =
      ⊎_elim
      (λ waits.
      let found = value_where_some (queued_of mid.kernel.queue token) waits in
      let t = takes_packet mid world fs attach served token row is same found.0 found.1 in
      subst (Leads 5 mid) (sym (is_delivery failure mid found.0 found.1)) (
        t.done,
        record {
          world = t.served.world;
          queued = seen_still mid (events.Deliver token None) queued;
          left = inr (record { row = t.job; is_job = t.served.is_job; fs_is = t.served.fs_is; attach_is = t.served.attach_is; few = t.few });
        },
      ))
      (λ work.
      let taken : job_of mid.daemon.jobs token ≡ Some work.job = ap (job_of mid.daemon.jobs) (sym (token_number mid.kernel.waits.tokens token row is)) ∙ work.is_job in
      let own : work.job.attach ≡ attach = some_injective (sym work.current ∙ ap (attach_of mid.kernel) same ∙ served.current) in
      let plan = all_found IsOfPlan (λ (r : JobPlan). r.token == token) mid.daemon.jobs work.job world.holds.plans taken in
      job_acts 5 mid world served queued (record { row = work.job; is_job = taken; fs_is = work.fs ∙ same; attach_is = own; few = more_acts 5 work.job.plan plan.few }) failure)
      (world.consistent.agreed.tokens.open_tokens token row is)

  begins_by_cases : (mid : State) (found : Option OpenToken) → token_of mid.kernel.waits.tokens token ≡ found → IsWorld mid → IsServed mid.kernel mid.daemon fs attach → Has (queues token) mid.trace → ((row : OpenToken) → token_of mid.kernel.waits.tokens token ≡ Some row → row.trigger.fs ≡ fs) →
      IsClosed token mid ⊎ ((failure : Option FailNo) → IsDone mid (event_about token failure mid) × ClosesAmong 5 fs attach token (next mid (event_about token failure mid)))
  begins_by_cases mid None is world served queued same = inl (is_closed mid world is)
  begins_by_cases mid (Some row) is world served queued same =
      inr (λ failure.
      let leads = first mid world served queued row is (same row is) failure in
      (leads.0, closes_among 5 (next mid (event_about token failure mid)) leads.1))

  attempts : (s : State) → IsWorld s → Has (queues token) s.trace → ((mid : State) → OthersAct fs attach token s mid → (row : OpenToken) → token_of mid.kernel.waits.tokens token ≡ Some row → row.trigger.fs ≡ fs) → ClosesAmong 6 fs attach token s
  attempts s world queued same = λ mid o.
      begins_by_cases mid (token_of mid.kernel.waits.tokens token) refl (world_still s mid o world) o.served (queued_still s mid o queued) (same mid o)

tokens_close_among : (s : State) → IsWorld s → TokensCloseAmong s
tokens_close_among s world fs attach served token row is same =
    attempts fs attach token s world (was_queued s token row world.consistent.traced is)
    (λ mid o later found.
    let more = run_adds s o.events o.answers mid o.run in
    ap (λ (g : Trigger). g.fs) (same_trigger_later s mid token more.0 row later world.consistent.traced (world_still fs attach token s mid o world).consistent.traced more.1 is found) ∙ same)

pub close_among : OpenTokensCloseAmongOthers
close_among = after_runs TokensCloseAmong tokens_close_among
