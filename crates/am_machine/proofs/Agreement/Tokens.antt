-- Where the book says that a mount or an unmount goes on, a job is at work, and each open token is
-- to be delivered, or to be answered, and not both.
use Rattle.std.proofs.Common.{◌≡◌, ◌⊎◌, ℕ, Bool, true, false, Option, Some, None, refl, sym, ap, subst, inl, inr, ⊎_elim, ◌∙◌}
use Rattle.std.specs.Prelude.{◌==◌, ◌&&◌, is_some, find, List}
use Rattle.std.specs.Option.{option_map}
use Rattle.am_names.specs.{same_trigger, OpenToken}
use Rattle.am_names.specs.declared.trigger.Trigger.{Trigger}
use Rattle.am_wait.specs.{WaitRows, token_of}
use Rattle.am_state.specs.{Record, RecordRow, QueuedRow}
use Rattle.am_kernel.specs.{KernelState, attach_of, queued_of}
use Rattle.am_job.specs.{record_of}
use Rattle.am_daemon.specs.{DaemonState, JobPlan, job_of}
use Rattle.am_names.proofs.SameTriggers.{equal_by_same_trigger}
use Rattle.am_names.proofs.Basics.{equal_by_test, some_injective, value_where_some, found_passes}
use Rattle.am_machine.specs.{is_named, WalksFit, IsInPipe, IsAtWork, HasToken, TokensAgree, has_record_left, IsPlanned, ArePlanned, IsServed, is_pending_for, is_to_record, BookAgrees, IsOfItsToken, AreOfTheirTokens, IsPending, IsToDeliver, IsToAnswer}
use Rattle.am_machine.proofs.Lists.Different.{all_found}

first_two : (a b c : Bool) → (a && b && c) ≡ true → (a ≡ true) × (b ≡ true)
first_two true true c e = (refl, refl)
first_two true false c e = absurd cc
first_two false b c e = absurd cc

-- ---- the job of a record that is pending

-- a job of the attachment, on the trigger
record IsJobOn (attach : ℕ) (g : Trigger) (o : Option JobPlan) : Type 0 where
  job : JobPlan
  is_job : o ≡ Some job
  current : job.attach ≡ attach
  trigger : job.trigger ≡ g

job_on : (attach : ℕ) (g : Trigger) (o : Option JobPlan) → is_to_record attach g o ≡ true → IsJobOn attach g o
job_on attach g None e = absurd cc
job_on attach g (Some job) e =
    let both = first_two (job.attach == attach) (same_trigger job.trigger g) (has_record_left job.plan) e in
    record { job = job; is_job = refl; current = equal_by_test job.attach attach both.0; trigger = equal_by_same_trigger job.trigger g both.1 }

-- an open token asks for a trigger that has a name
pub token_named : (k : KernelState) → WalksFit k → (token : ℕ) (row : OpenToken) → token_of k.waits.tokens token ≡ Some row → is_named row.trigger ≡ true
token_named k named token row is = all_found (λ (r : OpenToken). is_named r.trigger ≡ true) (λ (r : OpenToken). r.token == token) k.waits.tokens row named.tokens is

-- a job whose attachment the file system still has, has its open token
pub token_at_work : (k : KernelState) (d : DaemonState) → TokensAgree k d.jobs → (token : ℕ) (job : JobPlan) → job_of d.jobs token ≡ Some job → attach_of k job.trigger.fs ≡ Some job.attach → HasToken k job
token_at_work k d h token job is current = all_found (λ (row : JobPlan). attach_of k row.trigger.fs ≡ Some row.attach → HasToken k row) (λ (row : JobPlan). row.token == token) d.jobs job h.at_work is current

-- ---- the record

entry_in : (w : WaitRows) (entry : Record) (o : Option RecordRow) → ((row : RecordRow) → o ≡ Some row → IsOfItsToken w row.entry) → option_map (λ row. row.entry) o ≡ Some entry → IsOfItsToken w entry
entry_in w entry None h e = absurd cc
entry_in w entry (Some row) h e = subst (IsOfItsToken w) (let same : row.entry ≡ entry = cc in same) (h row refl)

its_token : (w : WaitRows) (book : List RecordRow) (g : Trigger) (entry : Record) → AreOfTheirTokens w book → record_of book g ≡ Some entry → IsOfItsToken w entry
its_token w book g entry h found =
    entry_in w entry (find (λ row. same_trigger row.trigger g) book) (λ row is. all_found (λ (r : RecordRow). IsOfItsToken w r.entry) (λ (r : RecordRow). same_trigger r.trigger g) book row h is) found

-- ---- a packet in the pipe

pub in_pipe : (k : KernelState) (d : DaemonState) → TokensAgree k d.jobs → (token : ℕ) (row : QueuedRow) → queued_of k.queue token ≡ Some row → IsInPipe k d.jobs row
in_pipe k d h token row is = all_found (IsInPipe k d.jobs) (λ (r : QueuedRow). r.token == token) k.queue row h.in_pipe is

pub queued_number : (k : KernelState) (token : ℕ) (row : QueuedRow) → queued_of k.queue token ≡ Some row → row.token ≡ token
queued_number k token row is = equal_by_test row.token token (found_passes (λ (r : QueuedRow). r.token == token) k.queue row is)

-- no job has the token
pub untaken : (k : KernelState) (d : DaemonState) → TokensAgree k d.jobs → (token : ℕ) (row : QueuedRow) → queued_of k.queue token ≡ Some row → job_of d.jobs token ≡ None
untaken k d h token row is = ap (job_of d.jobs) (sym (queued_number k token row is)) ∙ (in_pipe k d h token row is).untaken

-- so the packet of a job's token is in no pipe
unqueued : (k : KernelState) (d : DaemonState) → TokensAgree k d.jobs → (token : ℕ) (job : JobPlan) → job_of d.jobs token ≡ Some job → queued_of k.queue token ≡ None
unqueued k d h token job is = by (queued_of k.queue token) refl
  where
    by : (o : Option QueuedRow) → queued_of k.queue token ≡ o → o ≡ None
    by None e = refl
    by (Some row) e = let none : job_of d.jobs token ≡ None = untaken k d h token row e in absurd cc

-- ---- of a file system that the daemon serves

module _ (k : KernelState) (d : DaemonState) (tokens : TokensAgree k d.jobs) (fs attach : ℕ) (served : IsServed k d fs attach) where
  -- where the book says that a mount or an unmount goes on, a job is at work
  pub pending_here : BookAgrees k d → AreOfTheirTokens k.waits d.book → WalksFit k → (g : Trigger) (entry : Record) (token : ℕ) → g.fs ≡ fs → record_of d.book g ≡ Some entry → is_pending_for token (Some entry) ≡ true → IsPending k d attach g entry token
  pending_here book records named g entry token same found e =
      let j = job_on attach g (job_of d.jobs token) (sym (book.pending fs attach served g same token) ∙ ap (is_pending_for token) found ∙ e) in
      let system : j.job.trigger.fs ≡ g.fs = ap (λ (t : Trigger). t.fs) j.trigger in
      let lasts : attach_of k j.job.trigger.fs ≡ Some j.job.attach = ap (attach_of k) (system ∙ same) ∙ served.current ∙ ap (λ (n : ℕ). Some n) (sym j.current) in
      let has = token_at_work k d tokens token j.job j.is_job lasts in
      let number : j.job.token ≡ token = equal_by_test j.job.token token (found_passes (λ (row : JobPlan). row.token == token) d.jobs j.job j.is_job) in
      let is_open : token_of k.waits.tokens token ≡ Some has.token = ap (token_of k.waits.tokens) (sym number) ∙ has.is_open in
      record {
        job = j.job;
        is_job = j.is_job;
        attach = j.current;
        trigger = j.trigger;
        row = has.token;
        is_open = is_open;
        asks = sym (has.trigger (token_named k named token has.token is_open)) ∙ j.trigger;
        kind = (its_token k.waits d.book g entry records found).kind token has.token is_open e;
      }

  -- an open token whose packet is in the pipe is to be delivered
  to_deliver : (token : ℕ) (row : OpenToken) → token_of k.waits.tokens token ≡ Some row → row.trigger.fs ≡ fs → is_some (queued_of k.queue token) ≡ true → IsToDeliver k d attach token
  to_deliver token row is same waits =
      let queued = value_where_some (queued_of k.queue token) waits in
      let pipe = in_pipe k d tokens token queued.0 queued.1 in
      let one : pipe.token ≡ row = some_injective (sym pipe.is_open ∙ ap (token_of k.waits.tokens) (queued_number k token queued.0 queued.1) ∙ is) in
      let system : pipe.token.trigger.fs ≡ fs = ap (λ (t : OpenToken). t.trigger.fs) one ∙ same in
      record {
        row = queued.0;
        is_queued = queued.1;
        attach = some_injective (sym pipe.current ∙ ap (attach_of k) system ∙ served.current);
        untaken = untaken k d tokens token queued.0 queued.1;
      }

  -- an open token that a job has is to be answered
  to_answer : ArePlanned d.jobs → (token : ℕ) (row : OpenToken) → token_of k.waits.tokens token ≡ Some row → row.trigger.fs ≡ fs → job_of d.jobs token ≡ job_of d.jobs row.token → IsAtWork k d.jobs row → IsToAnswer k d attach token
  to_answer planned token row is same number work =
      let taken : job_of d.jobs token ≡ Some work.job = number ∙ work.is_job in
      record {
        job = work.job;
        is_job = taken;
        attach = some_injective (sym work.current ∙ ap (attach_of k) same ∙ served.current);
        left = (all_found IsPlanned (λ (r : JobPlan). r.token == token) d.jobs work.job planned taken).last;
        unqueued = unqueued k d tokens token work.job taken;
      }

  -- each open token is one or the other
  pub tokens_here : ArePlanned d.jobs → (token : ℕ) (row : OpenToken) → token_of k.waits.tokens token ≡ Some row → row.trigger.fs ≡ fs → IsToDeliver k d attach token ⊎ IsToAnswer k d attach token
  tokens_here planned token row is same =
      let number : row.token ≡ token = equal_by_test row.token token (found_passes (λ (r : OpenToken). r.token == token) k.waits.tokens row is) in
      ⊎_elim
      (λ waits. inl (to_deliver token row is same waits))
      (λ work. inr (to_answer planned token row is same (ap (job_of d.jobs) (sym number)) work))
      (tokens.open_tokens token row is)
