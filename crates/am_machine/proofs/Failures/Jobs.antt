-- What a job does leaves failures only where nothing is mounted.
use Rattle.std.proofs.Common.{◌≡◌, ◌∙◌, ℕ, ◌==◌, Bool, true, false, [], ◌∷◌, ◌++◌, Option, Some, None, refl, sym, ap, subst, inl, inr}
use Rattle.std.specs.List.{All}
use Rattle.am_names.specs.declared.fail_no.FailNo.{FailNo}
use Rattle.am_names.specs.{same_trigger, OpenToken, TokenKind}
use Rattle.am_names.specs.declared.trigger.Trigger.{Trigger}
use Rattle.am_names.specs.declared.trigger.Status.TheVariants.{Fail}
use Rattle.am_names.specs.declared.row.TokenKind.TheVariants.{Missing, Expire}
use Rattle.am_names.proofs.Basics.{equal_to_itself, equal_by_test, some_injective, found_passes}
use Rattle.am_wire.specs.{token_kind}
use Rattle.am_wait.specs.{WaitRows, token_of}
use Rattle.am_trigger.specs.{Autofs, TriggerRows, FailureRows, autofs_of, failure_of}
use Rattle.am_state.specs.{Record, QueuedRow}
use Rattle.am_job.specs.{Outcome, next_of, mount_in, plan_for}
use Rattle.am_job.specs.declared.act.Act.TheVariants as act
use Rattle.am_kernel.specs.{KernelState, attach_of, mounted_on}
use Rattle.am_daemon.specs.{DaemonState, JobPlan, holds, job_of, job_for, trigger_of, entry_of, mounted_for, taken_up, walked, writes, finished_in, finished}
use Rattle.am_daemon.proofs.JobLemmas.{others_stay}
use Rattle.am_machine.specs.{Asked, IsServed, IsInPipe, HasToken, TokensAgree, BookAgrees, AreClaimed, WalksFit, AllSuit, SuitsItsToken, IsAwaited, IsMended, FailuresAgree}
use Rattle.am_machine.proofs.Lists.Different.{all_found}
use Rattle.am_machine.proofs.Lists.Found.{find_others, find_new}
use Rattle.am_machine.proofs.Agreement.Tokens.{token_named, token_at_work}
use Rattle.am_machine.proofs.Books.Acts.{IsJob}
use Rattle.am_machine.proofs.Books.Jobs.{holds_one}
use Rattle.am_machine.proofs.Planned.Rests.{left_written}
use Rattle.am_machine.proofs.Tokens.Notify.{AreNumbered}
use Rattle.am_machine.proofs.TriggerMounts.Jobs.{finished_found, claims_record}
use Rattle.am_machine.proofs.Failures.Acts.{finished_suits, taken_suits, not_failed_at_once, acknowledges_later, failed_is_none}

-- nothing is mounted on the trigger of a job that is about to acknowledge a missing mount as failed
abbrev IsFree : KernelState → KernelState → JobPlan → Type 0
IsFree k made row = (token : OpenToken) (error : FailNo) → attach_of k row.trigger.fs ≡ Some row.attach → token_of k.waits.tokens row.token ≡ Some token → token.kind ≡ Missing →
    next_of row.plan ≡ Some (act.Reply (Fail error)) → mounted_on made row.trigger ≡ None

-- ---- a job goes on

-- it is the one that acted, or one of the others
job_by_cases : (P : JobPlan → Type 0) (d : DaemonState) (row : JobPlan) (outcome : Outcome) (job : ℕ) (new : JobPlan) (b : Bool) → (job == row.token) ≡ b → IsJob d row → job_of (finished_in row.token outcome d.jobs) job ≡ Some new →
    P (walked outcome row) → ((job == row.token) ≡ false → job_of d.jobs job ≡ Some new → P new) → P new
job_by_cases P d row outcome job new true is j found here there =
    subst P (sym (finished_found outcome row.token row new d.jobs j.differ j.found (subst (λ (n : ℕ). job_of (finished_in row.token outcome d.jobs) n ≡ Some new) (equal_by_test job row.token is) found))) here
job_by_cases P d row outcome job new false is j found here there = there is (sym (others_stay d.jobs row.token outcome job is) ∙ found)

-- the kernel's half stays
pub failures_go_on : (k : KernelState) (d : DaemonState) (row : JobPlan) (outcome : Outcome) → IsJob d row → IsFree k k (walked outcome row) → FailuresAgree k d → FailuresAgree k (finished row.token outcome d)
failures_go_on k d row outcome j here h = record {
  suited = finished_suits k.waits row.token outcome d.jobs h.suited;
  free = λ job new token error found now is_open missing next.
      job_by_cases (IsFree k k) d row outcome job new (job == row.token) refl j found here (λ other there token error now is_open missing next. h.free job new token error there now is_open missing next) token error now is_open missing next;
  mended = h.mended;
}

-- by an act that writes nothing
pub never_next : (k made : KernelState) (d : DaemonState) (row : JobPlan) (outcome : Outcome) → IsJob d row → writes (next_of row.plan) ≡ None → IsFree k made (walked outcome row)
never_next k made d row outcome j none = λ token error now is_open missing next. absurd (acknowledges_later row.trigger row.plan outcome (Fail error) none j.planned.rest next)

-- by the act that writes the book
pub free_once_written : (k : KernelState) (d : DaemonState) (row : JobPlan) (outcome : Outcome) (trigger : Trigger) (entry : Option Record) → IsJob d row → next_of row.plan ≡ Some (act.Record trigger entry) → holds d row.trigger.fs row.attach ≡ true → BookAgrees k d → AreClaimed k d → FailuresAgree k d → IsFree k k (walked outcome row)
free_once_written k d row outcome trigger entry j e held book claimed h = λ token error now is_open missing next.
    let served : IsServed k d row.trigger.fs row.attach = record { current = now; held = holds_one row.trigger.fs row.attach d.held book.held held } in
    let its = all_found (SuitsItsToken k.waits) (λ (r : JobPlan). r.token == row.token) d.jobs row h.suited j.found in
    let acts : AllSuit Missing row.plan = subst (λ (kind : TokenKind). AllSuit kind row.plan) missing (its.acts token is_open) in
    let none : entry ≡ None = failed_is_none row.plan outcome trigger entry error e acts next in
    let w = left_written row.trigger row.plan outcome trigger entry e j.planned.rest in
    claimed row.trigger.fs row.attach served row.token row j.found refl refl w.before ∙ claims_record row.plan trigger entry e ∙ ap mount_in none

-- ---- a job mounts, or unmounts

-- what is mounted changes on the trigger of the job alone
pub record MovesOn (k made : KernelState) (d : DaemonState) (row : JobPlan) : Type 0 where
  pub waits : made.waits ≡ k.waits
  pub failures : made.failures ≡ k.failures
  pub triggers : made.triggers ≡ k.triggers
  pub attached : (fs : ℕ) → attach_of made fs ≡ attach_of k fs
  pub others : (g : Trigger) (a : Autofs) → autofs_of k.triggers g.fs ≡ Some a → same_trigger row.trigger g ≡ false → mounted_on made g ≡ mounted_on k g
  -- of another job on the same trigger
  pub free : (job : ℕ) (new : JobPlan) → (job == row.token) ≡ false → job_of d.jobs job ≡ Some new → same_trigger row.trigger new.trigger ≡ true → IsFree k made new
  pub mended : (g : Trigger) (mount : ℕ) → same_trigger row.trigger g ≡ true → mounted_on made g ≡ Some mount → IsMended k g

module _ (k made : KernelState) (d : DaemonState) (row : JobPlan) (outcome : Outcome) (j : IsJob d row) (none : writes (next_of row.plan) ≡ None) (m : MovesOn k made d row) (autofs : (fs attach : ℕ) → attach_of k fs ≡ Some attach → (a : Autofs) × (autofs_of k.triggers fs ≡ Some a)) (h : FailuresAgree k d) where
  free_by_cases : (job : ℕ) (new : JobPlan) → (job == row.token) ≡ false → job_of d.jobs job ≡ Some new → (b : Bool) → same_trigger row.trigger new.trigger ≡ b → IsFree k made new
  free_by_cases job new other there true same = m.free job new other there same
  free_by_cases job new other there false apart = λ token error now is_open missing next.
      let a = autofs new.trigger.fs new.attach now in
      m.others new.trigger a.0 a.1 apart ∙ h.free job new token error there now is_open missing next

  mended_by_cases : (g : Trigger) (a : Autofs) (mount : ℕ) → autofs_of k.triggers g.fs ≡ Some a → mounted_on made g ≡ Some mount → (b : Bool) → same_trigger row.trigger g ≡ b → IsMended k g
  mended_by_cases g a mount is on true same = m.mended g mount same on
  mended_by_cases g a mount is on false apart = h.mended g a mount is (sym (m.others g a is apart) ∙ on)

  still_mended : (g : Trigger) → IsMended k g → IsMended made g
  still_mended g (inl good) = inl (ap (λ (rows : FailureRows). failure_of rows g) m.failures ∙ good)
  still_mended g (inr awaited) = inr (subst (λ (w : WaitRows). IsAwaited w.tokens g) (sym m.waits) awaited)

  pub failures_moved : FailuresAgree made (finished row.token outcome d)
  failures_moved = record {
    suited = subst (λ (w : WaitRows). All (SuitsItsToken w) (finished_in row.token outcome d.jobs)) (sym m.waits) (finished_suits k.waits row.token outcome d.jobs h.suited);
    free = λ job new token error found now is_open missing next.
        job_by_cases (IsFree k made) d row outcome job new (job == row.token) refl j found (never_next k made d row outcome j none) (λ other there. free_by_cases job new other there (same_trigger row.trigger new.trigger) refl)
        token error (sym (m.attached new.trigger.fs) ∙ now) (subst (λ (w : WaitRows). token_of w.tokens new.token ≡ Some token) m.waits is_open) missing next;
    mended = λ g a mount is on.
        still_mended g (mended_by_cases g a mount (subst (λ (t : TriggerRows). autofs_of t g.fs ≡ Some a) m.triggers is) on (same_trigger row.trigger g) refl);
  }

-- ---- jobs and their tokens

module _ (k : KernelState) (d : DaemonState) (tokens : TokensAgree k d.jobs) (named : WalksFit k) where
  -- the open token of a job asks for the job's trigger
  pub asks_for : (job : ℕ) (row : JobPlan) → job_of d.jobs job ≡ Some row → attach_of k row.trigger.fs ≡ Some row.attach → (has : HasToken k row) × (row.trigger ≡ has.token.trigger)
  asks_for job row found current =
      let has = token_at_work k d tokens job row found current in
      (has, has.trigger (token_named k named row.token has.token has.is_open))

  -- two jobs on one trigger are one
  pub one_job : (job : ℕ) (row new : JobPlan) → job_of d.jobs row.token ≡ Some row → attach_of k row.trigger.fs ≡ Some row.attach → job_of d.jobs job ≡ Some new → attach_of k new.trigger.fs ≡ Some new.attach → same_trigger row.trigger new.trigger ≡ true → (job == row.token) ≡ true
  one_job job row new found current there now same =
      let mine = asks_for row.token row found current in
      let its = asks_for job new there now in
      let both : same_trigger mine.0.token.trigger its.0.token.trigger ≡ true =
      subst (λ (g : Trigger). same_trigger g its.0.token.trigger ≡ true) mine.1 (subst (λ (g : Trigger). same_trigger row.trigger g ≡ true) its.1 same) in
      let one : row.token ≡ new.token = tokens.once row.token new.token mine.0.token its.0.token mine.0.is_open its.0.is_open both in
      let number : new.token ≡ job = equal_by_test new.token job (found_passes (λ (r : JobPlan). r.token == job) d.jobs new there) in
      subst (λ (n : ℕ). (n == row.token) ≡ true) (one ∙ number) (equal_to_itself row.token)

-- ---- a packet is taken up

module _ (k : KernelState) (d : DaemonState) (row : QueuedRow) (p : IsInPipe k d.jobs row) (n : AreNumbered k.waits.tokens k.waits.last_token d.jobs) (idle : job_of d.jobs row.packet.token ≡ None) (h : FailuresAgree k d) where
  never_failed : (kind : TokenKind) (error : FailNo) → kind ≡ Missing → next_of (plan_for kind (trigger_of row.packet) (mounted_for d row.packet) (entry_of d (trigger_of row.packet))) ≡ Some (act.Reply (Fail error)) → ⊥
  never_failed Missing error e next = not_failed_at_once (trigger_of row.packet) (mounted_for d row.packet) (entry_of d (trigger_of row.packet)) error next
  never_failed Expire error e next = absurd cc

  new_free : IsFree k k (job_for row.attach row.packet d)
  new_free = λ token error now is_open missing next.
      let its : token_of k.waits.tokens row.packet.token ≡ Some p.token = ap (token_of k.waits.tokens) p.numbered ∙ p.is_open in
      let same : p.token ≡ token = some_injective (sym its ∙ is_open) in
      let kind : token_kind row.packet.kind ≡ Missing = ap (λ (a : Asked). a.kind) p.asks ∙ ap (λ (r : OpenToken). r.kind) same ∙ missing in
      absurd (never_failed (token_kind row.packet.kind) error kind next)

  taken_by_cases : (job : ℕ) (new : JobPlan) (b : Bool) → (row.packet.token == job) ≡ b → job_of (d.jobs ++ job_for row.attach row.packet d ∷ []) job ≡ Some new → IsFree k k new
  taken_by_cases job new true is found =
      let here : job_of (d.jobs ++ job_for row.attach row.packet d ∷ []) row.packet.token ≡ Some new = subst (λ (m : ℕ). job_of (d.jobs ++ job_for row.attach row.packet d ∷ []) m ≡ Some new) (sym (equal_by_test row.packet.token job is)) found in
      let both : Some (job_for row.attach row.packet d) ≡ Some new = sym (find_new (λ (r : JobPlan). r.token == row.packet.token) d.jobs (job_for row.attach row.packet d) idle (equal_to_itself row.packet.token)) ∙ here in
      subst (IsFree k k) (some_injective both) new_free
  taken_by_cases job new false differs found = λ token error now is_open missing next.
      h.free job new token error (sym (find_others (λ (r : JobPlan). r.token == job) d.jobs (job_for row.attach row.packet d) differs) ∙ found) now is_open missing next

  pub failures_taken : FailuresAgree k (taken_up row.attach row.packet d)
  failures_taken = record {
    suited = taken_suits k d row p n h.suited;
    free = λ job new token error found now is_open missing next. taken_by_cases job new (row.packet.token == job) refl found token error now is_open missing next;
    mended = h.mended;
  }
