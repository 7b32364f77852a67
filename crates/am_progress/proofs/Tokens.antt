-- Each open token of a file system that the daemon serves can be closed by the daemon alone.
use Rattle.std.proofs.Common.{◌≡◌, ℕ, zero, suc, Bool, true, false, cond, List, [], ◌∷◌, map, Some, None, refl, sym, ap, subst, inl, inr, ⊎_elim, ◌∙◌, Option}
use Rattle.std.specs.Prelude.{◌==◌, if◌then◌else◌}
use Rattle.am_names.specs.declared.fail_no.FailNo.{FailNo}
use Rattle.am_names.specs.{Status, OpenToken, WaitRow}
use Rattle.am_names.proofs.Basics.{equal_to_itself, some_injective, value_where_some}
use Rattle.am_wait.specs.{WaitRows, token_of, wait_of, answered, released_row}
use Rattle.am_wait.proofs.FindLemmas.{token_taken}
use Rattle.am_state.specs.{QueuedRow}
use Rattle.am_kernel.specs.{attach_of, queued_of, without_packet}
use Rattle.am_job.specs.{Act, Plan, Ended, Next, next_of, rest_of, AcknowledgesLast}
use Rattle.am_job.specs.declared.act.Act.TheVariants as act
use Rattle.am_job.specs.declared.act.Outcome as outcomes
use Rattle.am_daemon.specs.{JobPlan, walked, job_of, job_for, trigger_of, plan_of_packet, taken_up}
use Rattle.am_machine.specs.declared.event.Event.TheVariants as events
use Rattle.am_machine.specs.{Answer, after, outcome_of, IsAtWork, IsServed}
use Rattle.am_machine.specs.State.{State}
use Rattle.am_machine.specs.EventOutcome.{EventOutcome}
use Rattle.am_machine.proofs.Lists.Different.{all_found}
use Rattle.am_machine.proofs.Tokens.Catatonic.{token_number, dev_of}
use Rattle.am_machine.proofs.Planned.Acts.{acknowledges, goes_after}
use Rattle.am_machine.proofs.Lists.Found.{find_new}
use Rattle.am_machine.proofs.Agreement.Tokens.{in_pipe, queued_number}
use Rattle.am_progress.specs.{IsDone, is_refused, next, TellsOf, HasActs, most_acts, goes_on_as, LeadsTo, CanReach, HasReleased, TokensCanClose, OpenTokensCanBeClosed}
use Rattle.am_progress.proofs.Plans.{IsOfPlan, packet_plan}
use Rattle.am_progress.proofs.Packets.{taken}
use Rattle.am_progress.proofs.Jobs.{Acting, its_plan, job_number}
use Rattle.am_progress.proofs.Acts.{Does, waits_after, does, goes_left, next_is, acting}
use Rattle.am_progress.proofs.Ways.{arrived, reaches_on}
use Rattle.am_progress.proofs.Worlds.{IsWorld, next_world, after_runs}

-- ---- what an act leaves

-- what is answered tells of no refusal
pub told_done : (a : Act) (outcome : outcomes.Outcome) (answer : Answer) → TellsOf a outcome answer → is_refused answer ≡ false
told_done (act.Mkdir t) outcome answer h = ap is_refused h.1
told_done (act.Mount t entry) outcome answer (inl h) = ap is_refused h.2
told_done (act.Mount t entry) outcome answer (inr h) = ap is_refused h.2
told_done (act.Umount t) outcome answer (inl h) = ap is_refused h.1
told_done (act.Umount t) outcome answer (inr h) = ap is_refused h.2
told_done (act.Rmdir t) outcome answer h = ap is_refused h.1
told_done (act.Record t entry) outcome answer h = ap is_refused h.1
told_done (act.Reply status) outcome answer h = ap is_refused h.1

-- a job whose attachment the daemon holds, beside what stands of the waits
pub record Served (s : State) (fs attach token : ℕ) (row : JobPlan) (w : WaitRows) : Type 0 where
  pub world : IsWorld s
  pub served : IsServed s.kernel s.daemon fs attach
  pub is_job : job_of s.daemon.jobs token ≡ Some row
  pub fs_is : row.trigger.fs ≡ fs
  pub attach_is : row.attach ≡ attach
  pub waits : s.kernel.waits ≡ w

pub served_acts : (s : State) (fs attach token : ℕ) (row : JobPlan) (w : WaitRows) → Served s fs attach token row w → Acting s token row
served_acts s fs attach token row w h = acting s h.world fs attach h.served token row h.is_job h.fs_is h.attach_is

module _ (s : State) (fs attach token : ℕ) (row : JobPlan) (w : WaitRows) (h : Served s fs attach token row w) (failure : Option FailNo) (a : Act) (e : next_of row.plan ≡ Some a) where
  -- what it does
  pub its_act : Does s row a (outcome_of s (events.Act token failure))
  its_act = does s token row failure a (served_acts s fs attach token row w h) e

  pub act_done : IsDone s (events.Act token failure)
  act_done = ap (λ (o : EventOutcome). is_refused o.answer) its_act.is ∙ told_done a its_act.came its_act.answer its_act.told

  pub act_world : IsWorld (next s (events.Act token failure))
  act_world = next_world s (events.Act token failure) tt h.world

  pub act_served : IsServed (next s (events.Act token failure)).kernel (next s (events.Act token failure)).daemon fs attach
  act_served =
      subst (λ (o : EventOutcome). IsServed (after s o).kernel (after s o).daemon fs attach) (sym its_act.is)
      (record { current = its_act.attaches fs ∙ h.served.current; held = h.served.held })

  pub act_waits : (next s (events.Act token failure)).kernel.waits ≡ waits_after a token w
  act_waits =
      subst (λ (o : EventOutcome). (after s o).kernel.waits ≡ waits_after a token w) (sym its_act.is)
      (its_act.waits ∙ ap (λ (n : ℕ). waits_after a n s.kernel.waits) (job_number s token row (served_acts s fs attach token row w h)) ∙ ap (waits_after a token) h.waits)

  pub act_left : job_of (next s (events.Act token failure)).daemon.jobs token ≡ goes_on_as its_act.came row
  act_left =
      subst (λ (o : EventOutcome). job_of (after s o).daemon.jobs token ≡ goes_on_as its_act.came row) (sym its_act.is)
      (goes_left s token row its_act.came (served_acts s fs attach token row w h))

  -- where it isn't the reply the job goes on
  pub act_goes : acknowledges a ≡ false → waits_after a token w ≡ w → Served (next s (events.Act token failure)) fs attach token (walked its_act.came row) w
  act_goes more same = record {
    world = act_world;
    served = act_served;
    is_job = act_left ∙ ap (λ (b : Bool). if b then None else Some (walked its_act.came row)) (goes_after row.plan its_act.came a (its_plan s token row (served_acts s fs attach token row w h)).last e more);
    fs_is = h.fs_is;
    attach_is = h.attach_is;
    waits = act_waits ∙ same;
  }

-- ---- the reply

released_by_cases : (walker token : ℕ) (status : Status) (x row : WaitRow) (rows : List WaitRow) (b : Bool) → (released_row token status x).walker ≡ x.walker → (x.walker == walker) ≡ b → row.token ≡ token →
    (wait_of rows walker ≡ Some row → wait_of (map (released_row token status) rows) walker ≡ Some (record row { status = Some status })) →
    cond b (Some x) (wait_of rows walker) ≡ Some row → cond b (Some (released_row token status x)) (wait_of (map (released_row token status) rows) walker) ≡ Some (record row { status = Some status })
released_by_cases walker token status x row rows true same is on later e =
    let its : x ≡ row = cc in
    let here : (row.token == token) ≡ true = subst (λ (n : ℕ). (row.token == n) ≡ true) on (equal_to_itself row.token) in
    ap (λ (r : WaitRow). Some (released_row token status r)) its ∙ ap (λ (b : Bool). Some (if b then record row { status = Some status } else row)) here
released_by_cases walker token status x row rows false same is on later e = later e

released_walker : (b : Bool) (status : Status) (x : WaitRow) → (if b then record x { status = Some status } else x).walker ≡ x.walker
released_walker true status x = refl
released_walker false status x = refl

pub released_is : (walker token : ℕ) (status : Status) (rows : List WaitRow) (row : WaitRow) → wait_of rows walker ≡ Some row → row.token ≡ token → wait_of (map (released_row token status) rows) walker ≡ Some (record row { status = Some status })
released_is walker token status [] row e on = absurd cc
released_is walker token status (x ∷ rows) row e on =
    let same = released_walker (x.token == token) status x in
    ap (λ (n : ℕ). cond (n == walker) (Some (released_row token status x)) (wait_of (map (released_row token status) rows) walker)) same
    ∙ released_by_cases walker token status x row rows (x.walker == walker) same refl on (λ later. released_is walker token status rows row later on) e

abbrev pub answers_all : (old : State) (token : ℕ) (status : Status) (new : State) → new.kernel.waits ≡ answered token status old.kernel.waits → HasReleased old token new
answers_all old token status new same = record {
  closed = ap (λ (w : WaitRows). token_of w.tokens token) same ∙ token_taken token old.kernel.waits.tokens token true (equal_to_itself token);
  status = status;
  released = λ walker row is on still. ap (λ (w : WaitRows). wait_of w.waits walker) same ∙ released_is walker token status old.kernel.waits.waits row is on;
}

-- ---- the acts of a job close its token

-- the token is answered, in a world
pub record Answers (old : State) (token : ℕ) (new : State) : Type 0 where
  pub answered : HasReleased old token new
  pub world : IsWorld new

module _ (old : State) (fs attach token : ℕ) where
  pub no_act : (s : State) (row : JobPlan) → Served s fs attach token row old.kernel.waits → HasActs zero row.plan → ⊥
  no_act s row h few = none row.plan (its_plan s token row (served_acts s fs attach token row old.kernel.waits h)).last few
    where
      none : (plan : Plan) → AcknowledgesLast plan → HasActs zero plan → ⊥
      none Ended last few = last
      none (Next a rest) last few = few

  pub acts_left_are_fewer : (most : ℕ) (plan : Plan) (outcome : outcomes.Outcome) → HasActs (suc most) plan → HasActs most (rest_of outcome plan)
  acts_left_are_fewer zero Ended outcome few = tt
  acts_left_are_fewer (suc most) Ended outcome few = tt
  acts_left_are_fewer most (Next a rest) outcome few = few outcome

  by_act : (most : ℕ) (s : State) (row : JobPlan) (h : Served s fs attach token row old.kernel.waits) (failure : Option FailNo) (a : Act) → next_of row.plan ≡ Some a → HasActs (suc most) row.plan →
      ((new : State) (left : JobPlan) → Served new fs attach token left old.kernel.waits → HasActs most left.plan → LeadsTo most token (Answers old token) new) → LeadsTo most token (Answers old token) (next s (events.Act token failure))
  by_act most s row h failure (act.Mkdir t) e few later =
      let d = its_act s fs attach token row old.kernel.waits h failure (act.Mkdir t) e in
      later _ (walked d.came row) (act_goes s fs attach token row old.kernel.waits h failure (act.Mkdir t) e refl refl) (acts_left_are_fewer most row.plan d.came few)
  by_act most s row h failure (act.Mount t entry) e few later =
      let d = its_act s fs attach token row old.kernel.waits h failure (act.Mount t entry) e in
      later _ (walked d.came row) (act_goes s fs attach token row old.kernel.waits h failure (act.Mount t entry) e refl refl) (acts_left_are_fewer most row.plan d.came few)
  by_act most s row h failure (act.Umount t) e few later =
      let d = its_act s fs attach token row old.kernel.waits h failure (act.Umount t) e in
      later _ (walked d.came row) (act_goes s fs attach token row old.kernel.waits h failure (act.Umount t) e refl refl) (acts_left_are_fewer most row.plan d.came few)
  by_act most s row h failure (act.Rmdir t) e few later =
      let d = its_act s fs attach token row old.kernel.waits h failure (act.Rmdir t) e in
      later _ (walked d.came row) (act_goes s fs attach token row old.kernel.waits h failure (act.Rmdir t) e refl refl) (acts_left_are_fewer most row.plan d.came few)
  by_act most s row h failure (act.Record t entry) e few later =
      let d = its_act s fs attach token row old.kernel.waits h failure (act.Record t entry) e in
      later _ (walked d.came row) (act_goes s fs attach token row old.kernel.waits h failure (act.Record t entry) e refl refl) (acts_left_are_fewer most row.plan d.came few)
  by_act most s row h failure (act.Reply status) e few later =
      let there = next s (events.Act token failure) in
      arrived most token (Answers old token) there (record {
        answered = answers_all old token status there (act_waits s fs attach token row old.kernel.waits h failure (act.Reply status) e);
        world = act_world s fs attach token row old.kernel.waits h failure (act.Reply status) e;
      })

  closes : (most : ℕ) (s : State) (row : JobPlan) → Served s fs attach token row old.kernel.waits → HasActs most row.plan → LeadsTo most token (Answers old token) s
  closes zero s row h few = absurd (no_act s row h few)
  closes (suc most) s row h few =
      inr (λ failure.
      let coming = next_is row.plan (its_plan s token row (served_acts s fs attach token row old.kernel.waits h)).last in
      (act_done s fs attach token row old.kernel.waits h failure coming.0 coming.1, by_act most s row h failure coming.0 coming.1 few (λ new left. closes most new left)))

-- ---- and so does the daemon

-- The packet of an open token is taken from the pipe, and its job has a whole plan left.
pub record Takes (s : State) (fs attach token : ℕ) (queued : QueuedRow) : Type 0 where
  pub done : IsDone s (events.Deliver token None)
  pub job : JobPlan
  pub on : job.trigger ≡ trigger_of queued.packet
  pub plan : job.plan ≡ plan_of_packet s.daemon queued.packet
  pub kernel : (next s (events.Deliver token None)).kernel ≡ without_packet queued.token s.kernel
  pub book : (next s (events.Deliver token None)).daemon.book ≡ (taken_up queued.attach queued.packet s.daemon).book
  pub served : Served (next s (events.Deliver token None)) fs attach token job s.kernel.waits
  pub few : HasActs most_acts job.plan

pub takes_packet : (s : State) → IsWorld s → (fs attach : ℕ) → IsServed s.kernel s.daemon fs attach → (token : ℕ) (row : OpenToken) → token_of s.kernel.waits.tokens token ≡ Some row → row.trigger.fs ≡ fs →
    (queued : QueuedRow) → queued_of s.kernel.queue token ≡ Some queued → Takes s fs attach token queued
takes_packet s world fs attach served token row is same queued in_queue =
    let pipe = in_pipe s.kernel s.daemon world.consistent.agreed.tokens token queued in_queue in
    let number : queued.token ≡ token = queued_number s.kernel token queued in_queue in
    let one : pipe.token ≡ row = (let found : Some pipe.token ≡ Some row = sym pipe.is_open ∙ ap (token_of s.kernel.waits.tokens) number ∙ is in cc) in
    let dev : queued.packet.dev ≡ fs = dev_of queued.packet pipe.token pipe.asks ∙ ap (λ (r : OpenToken). r.trigger.fs) one ∙ same in
    let own : queued.attach ≡ attach = some_injective (sym pipe.current ∙ ap (λ (r : OpenToken). attach_of s.kernel r.trigger.fs) one ∙ ap (attach_of s.kernel) same ∙ served.current) in
    let t = taken s world fs attach served token queued in_queue dev in
    let event = events.Deliver token None in
    let job = job_for queued.attach queued.packet s.daemon in
    let its : (job.token == token) ≡ true = subst (λ (n : ℕ). (queued.packet.token == n) ≡ true) t.numbered (equal_to_itself queued.packet.token) in
    record {
      done = ap (λ (o : EventOutcome). is_refused o.answer) t.alone;
      job = job;
      on = refl;
      plan = refl;
      kernel = ap (λ (o : EventOutcome). (after s o).kernel) t.alone;
      book = ap (λ (o : EventOutcome). (after s o).daemon.book) t.alone;
      served = record {
        world = next_world s event tt world;
        served = subst (λ (o : EventOutcome). IsServed (after s o).kernel (after s o).daemon fs attach) (sym t.alone) (record { current = served.current; held = served.held });
        is_job = subst (λ (o : EventOutcome). job_of (after s o).daemon.jobs token ≡ Some job) (sym t.alone)
            (find_new (λ (r : JobPlan). r.token == token) s.daemon.jobs job (ap (job_of s.daemon.jobs) (sym number) ∙ pipe.untaken) its);
        fs_is = dev;
        attach_is = own;
        waits = subst (λ (o : EventOutcome). (after s o).kernel.waits ≡ s.kernel.waits) (sym t.alone) refl;
      };
      few = packet_plan s.daemon queued.packet;
    }

-- a packet that is in the pipe is taken first
closes_from_the_pipe : (s : State) → IsWorld s → (fs attach : ℕ) → IsServed s.kernel s.daemon fs attach → (token : ℕ) (row : OpenToken) → token_of s.kernel.waits.tokens token ≡ Some row → row.trigger.fs ≡ fs →
    (queued : QueuedRow) → queued_of s.kernel.queue token ≡ Some queued → CanReach most_acts token (Answers s token) s
closes_from_the_pipe s world fs attach served token row is same queued in_queue =
    let t = takes_packet s world fs attach served token row is same queued in_queue in
    inr (t.done, closes s fs attach token most_acts (next s (events.Deliver token None)) t.job t.served t.few)

-- a job that has it goes on
closes_from_the_job : (s : State) → IsWorld s → (fs attach : ℕ) → IsServed s.kernel s.daemon fs attach → (token : ℕ) (row : OpenToken) → token_of s.kernel.waits.tokens token ≡ Some row → row.trigger.fs ≡ fs →
    IsAtWork s.kernel s.daemon.jobs row → CanReach most_acts token (Answers s token) s
closes_from_the_job s world fs attach served token row is same work =
    let here : Served s fs attach token work.job s.kernel.waits = record {
      world = world;
      served = served;
      is_job = ap (job_of s.daemon.jobs) (sym (token_number s.kernel.waits.tokens token row is)) ∙ work.is_job;
      fs_is = work.fs ∙ same;
      attach_is = some_injective (sym work.current ∙ ap (attach_of s.kernel) same ∙ served.current);
      waits = refl;
    } in
    inl (closes s fs attach token most_acts s work.job here (few s token work.job world here.is_job))
  where
    few : (s : State) (token : ℕ) (job : JobPlan) → IsWorld s → job_of s.daemon.jobs token ≡ Some job → HasActs most_acts job.plan
    few s token job world is = (all_found IsOfPlan (λ (r : JobPlan). r.token == token) s.daemon.jobs job world.holds.plans is).few

pub can_answer : (s : State) → IsWorld s → (fs attach : ℕ) → IsServed s.kernel s.daemon fs attach → (token : ℕ) (row : OpenToken) → token_of s.kernel.waits.tokens token ≡ Some row → row.trigger.fs ≡ fs → CanReach most_acts token (Answers s token) s
can_answer s world fs attach served token row is same =
    ⊎_elim
    (λ waits. let queued = value_where_some (queued_of s.kernel.queue token) waits in closes_from_the_pipe s world fs attach served token row is same queued.0 queued.1)
    (λ work. closes_from_the_job s world fs attach served token row is same work)
    (world.consistent.agreed.tokens.open_tokens token row is)

tokens_close : (s : State) → IsWorld s → TokensCanClose s
tokens_close s world fs attach served token row is same =
    reaches_on most_acts token (Answers s token) (HasReleased s token) (λ new h. h.answered) s (can_answer s world fs attach served token row is same)

pub open_tokens_close : OpenTokensCanBeClosed
open_tokens_close = after_runs TokensCanClose tokens_close
