-- Kernel and jobs agree on tokens still where a job goes on, and where it acknowledges and ends.
use Rattle.std.proofs.Common.{◌≡◌, ◌⊎◌, ℕ, Bool, true, false, ◌==◌, List, Some, None, refl, sym, ap, subst, ◌∙◌, inl, inr}
use Rattle.std.specs.Prelude.{is_some}
use Rattle.std.proofs.lemmas.List.Elements.{All-weaker}
use Rattle.am_names.specs.{Status, OpenToken}
use Rattle.am_names.proofs.Basics.{equal_by_test, differ_the_other_way}
use Rattle.am_wait.specs.{token_of}
use Rattle.am_wait.proofs.FindLemmas.{token_taken}
use Rattle.am_state.specs.{QueuedRow}
use Rattle.am_kernel.specs.{KernelState, attach_of, queued_of, acknowledged}
use Rattle.am_job.specs.{Outcome}
use Rattle.am_daemon.specs.{JobPlan, job_of, walked, is_ended, finished_in}
use Rattle.am_daemon.proofs.JobLemmas.{others_stay}
use Rattle.am_machine.specs.{IsInPipe, IsAtWork, HasToken, TokensAgree}
use Rattle.am_machine.proofs.Lists.Different.{mapped_some, mapped_none}
use Rattle.am_machine.proofs.Tokens.Catatonic.{token_number}
use Rattle.am_machine.proofs.Tokens.Jobs.{bare_job, goes_found, differ_finished, finished_all}
use Rattle.am_machine.proofs.Lists.Found.{some_unless}

-- ---- a job goes on

module _ (k : KernelState) (jobs : List JobPlan) (job : ℕ) (outcome : Outcome) (found : JobPlan) (is : job_of jobs job ≡ Some found) (goes : is_ended (walked outcome found) ≡ false) (h : TokensAgree k jobs) where
  abbrev left : List JobPlan
  left = finished_in job outcome jobs

  works : (row : OpenToken) → IsAtWork k jobs row → IsAtWork k left row
  works row w =
      let new = mapped_some bare_job (job_of jobs row.token) (job_of left row.token) w.job (goes_found jobs job outcome found is goes row.token) w.is_job in
      record {
        job = new.0;
        is_job = new.1;
        fs = ap (λ (r : JobPlan). r.trigger.fs) new.2 ∙ w.fs;
        current = w.current ∙ ap (λ (r : JobPlan). Some r.attach) (sym new.2);
      }

  has_packet_or_job : (t : ℕ) (row : OpenToken) → (is_some (queued_of k.queue t) ≡ true) ⊎ IsAtWork k jobs row → (is_some (queued_of k.queue t) ≡ true) ⊎ IsAtWork k left row
  has_packet_or_job t row (inl q) = inl q
  has_packet_or_job t row (inr w) = inr (works row w)

  packet_goes : (row : QueuedRow) → IsInPipe k jobs row → IsInPipe k left row
  packet_goes row p = record {
    token = p.token;
    is_open = p.is_open;
    numbered = p.numbered;
    asks = p.asks;
    current = p.current;
    untaken = mapped_none bare_job (job_of jobs row.token) (job_of left row.token) (goes_found jobs job outcome found is goes row.token) p.untaken;
  }

  pub goes_agree : TokensAgree k left
  goes_agree = record {
    once = h.once;
    packets = h.packets;
    numbers = differ_finished job outcome jobs h.numbers;
    open_tokens = λ t row e. has_packet_or_job t row (h.open_tokens t row e);
    in_pipe = All-weaker (IsInPipe k jobs) (IsInPipe k left) packet_goes k.queue h.in_pipe;
    at_work = finished_all (λ (row : JobPlan). attach_of k row.trigger.fs ≡ Some row.attach → HasToken k row) (λ (row : JobPlan). attach_of k row.trigger.fs ≡ Some row.attach → HasToken k row) job outcome found
        (λ row other p. p) (λ p ended current. let t = p current in record { token = t.token; is_open = t.is_open; fs = t.fs; trigger = t.trigger }) jobs is h.numbers h.at_work;
  }

-- ---- a job acknowledges, and ends

apart : (job t : ℕ) (jobs : List JobPlan) (found : JobPlan) (b : Bool) → (job == t) ≡ b → job_of jobs job ≡ Some found → job_of jobs t ≡ None → b ≡ false
apart job t jobs found true e is none = absurd (let here : job_of jobs t ≡ Some found = subst (λ (n : ℕ). job_of jobs n ≡ Some found) (equal_by_test job t e) is in cc)
apart job t jobs found false e is none = refl

module _ (k : KernelState) (jobs : List JobPlan) (job : ℕ) (status : Status) (outcome : Outcome) (found : JobPlan) (is : job_of jobs job ≡ Some found) (ends : is_ended (walked outcome found) ≡ true) (h : TokensAgree k jobs) where
  abbrev ended : List JobPlan
  ended = finished_in job outcome jobs

  abbrev made : KernelState
  made = acknowledged job status k

  was_open : (t : ℕ) (row : OpenToken) → token_of made.waits.tokens t ≡ Some row → ((job == t) ≡ false) × (token_of k.waits.tokens t ≡ Some row)
  was_open t row e = some_unless (job == t) (token_of k.waits.tokens t) row (sym (token_taken job k.waits.tokens t (job == t) refl) ∙ e)

  still_open : (t : ℕ) (row : OpenToken) → (job == t) ≡ false → token_of k.waits.tokens t ≡ Some row → token_of made.waits.tokens t ≡ Some row
  still_open t row other e = token_taken job k.waits.tokens t false other ∙ e

  stays : (t : ℕ) → (job == t) ≡ false → job_of ended t ≡ job_of jobs t
  stays t other = others_stay jobs job outcome t (differ_the_other_way job t other)

  had : (t : ℕ) (row : OpenToken) → (job == t) ≡ false → row.token ≡ t → (is_some (queued_of k.queue t) ≡ true) ⊎ IsAtWork k jobs row → (is_some (queued_of made.queue t) ≡ true) ⊎ IsAtWork made ended row
  had t row other number (inl q) = inl q
  had t row other number (inr w) =
      let differs : (job == row.token) ≡ false = ap (λ (n : ℕ). job == n) number ∙ other in
      inr (record { job = w.job; is_job = stays row.token differs ∙ w.is_job; fs = w.fs; current = w.current })

  packet_stays : (row : QueuedRow) → IsInPipe k jobs row → IsInPipe made ended row
  packet_stays row p =
      let other = apart job row.token jobs found (job == row.token) refl is p.untaken in
      record {
        token = p.token;
        is_open = still_open row.token p.token other p.is_open;
        numbered = p.numbered;
        asks = p.asks;
        current = p.current;
        untaken = stays row.token other ∙ p.untaken;
      }

  work_stays : (row : JobPlan) → (row.token == job) ≡ false → (attach_of k row.trigger.fs ≡ Some row.attach → HasToken k row) → attach_of made row.trigger.fs ≡ Some row.attach → HasToken made row
  work_stays row other token_of_it current =
      let t = token_of_it current in
      record { token = t.token; is_open = still_open row.token t.token (differ_the_other_way row.token job other) t.is_open; fs = t.fs; trigger = t.trigger }

  pub ends_agree : TokensAgree made ended
  ends_agree = record {
    once = λ a b x y p q same. h.once a b x y (was_open a x p).1 (was_open b y q).1 same;
    packets = h.packets;
    numbers = differ_finished job outcome jobs h.numbers;
    open_tokens = λ t row e. let old = was_open t row e in had t row old.0 (token_number k.waits.tokens t row old.1) (h.open_tokens t row old.1);
    in_pipe = All-weaker (IsInPipe k jobs) (IsInPipe made ended) packet_stays k.queue h.in_pipe;
    at_work = finished_all (λ (row : JobPlan). attach_of k row.trigger.fs ≡ Some row.attach → HasToken k row) (λ (row : JobPlan). attach_of made row.trigger.fs ≡ Some row.attach → HasToken made row) job outcome found
        work_stays (λ p goes. absurd cc) jobs is h.numbers h.at_work;
  }
