-- Kernel and jobs agree on tokens still where a packet is delivered.
use Rattle.std.proofs.Common.{◌≡◌, ◌⊎◌, ℕ, Bool, true, false, cond, not, ◌==◌, List, [], ◌∷◌, ◌++◌, Option, Some, None, refl, sym, ap, subst, ◌∙◌, inl, inr, arith}
use Rattle.std.specs.Prelude.{is_some}
use Rattle.std.proofs.lemmas.Bool.Decides.{nat_tests}
use Rattle.std.proofs.lemmas.List.Elements.{All-weaker, All-push}
use Rattle.am_names.specs.declared.trigger.Trigger.{Trigger}
use Rattle.am_names.specs.{OpenToken}
use Rattle.am_names.proofs.Basics.{equal_to_itself, equal_by_test}
use Rattle.am_wait.specs.{token_of}
use Rattle.am_wait.proofs.FindLemmas.{or_first, find_append, find_kept}
use Rattle.am_state.specs.{QueuedRow}
use Rattle.am_kernel.specs.{KernelState, attach_of, queued_of, without_packet}
use Rattle.am_daemon.specs.{JobPlan, job_of, trigger_of}
use Rattle.am_machine.specs.{IsInPipe, IsAtWork, HasToken, TokensAgree}
use Rattle.am_machine.proofs.Lists.Different.{each_kept, differ_push, differ_filter, differ_as_the_third}
use Rattle.am_machine.proofs.Tokens.Catatonic.{token_number, dev_of}
use Rattle.am_machine.proofs.Tokens.Names.{reads}

other_one : (a n : ℕ) → not (a == n) ≡ true → (n == a) ≡ false
other_one a n e = grind (arith, nat_tests, e)

-- the job is that of the packet
pub record Begins (row : QueuedRow) (job : JobPlan) : Type 0 where
  pub token : job.token ≡ row.token
  pub attach : job.attach ≡ row.attach
  pub trigger : job.trigger ≡ trigger_of row.packet

module _ (k : KernelState) (jobs : List JobPlan) (row : QueuedRow) (job : JobPlan) (b : Begins row job) (p : IsInPipe k jobs row) (h : TokensAgree k jobs) where
  now : (j : ℕ) → job_of (jobs ++ job ∷ []) j ≡ or_first (job_of jobs j) (cond (job.token == j) (Some job) None)
  now j = find_append (λ (r : JobPlan). r.token == j) jobs (job ∷ [])

  is_new : job_of jobs job.token ≡ None
  is_new = subst (λ (n : ℕ). job_of jobs n ≡ None) (sym b.token) p.untaken

  job_now : job_of (jobs ++ job ∷ []) job.token ≡ Some job
  job_now = now job.token ∙ rw (is_new, equal_to_itself job.token) refl

  stays : (j : ℕ) (old : JobPlan) → job_of jobs j ≡ Some old → job_of (jobs ++ job ∷ []) j ≡ Some old
  stays j old e = now j ∙ ap (λ (o : Option JobPlan). or_first o (cond (job.token == j) (Some job) None)) e

  still_none : (j : ℕ) → (row.token == j) ≡ false → job_of jobs j ≡ None → job_of (jobs ++ job ∷ []) j ≡ None
  still_none j other e =
      let differs : (job.token == j) ≡ false = ap (λ (n : ℕ). n == j) b.token ∙ other in
      now j ∙ rw (e, differs) refl

  current_of : attach_of k p.token.trigger.fs ≡ Some job.attach
  current_of = p.current ∙ ap (λ (n : ℕ). Some n) (sym b.attach)

  fs_of : job.trigger.fs ≡ p.token.trigger.fs
  fs_of = ap (λ (g : Trigger). g.fs) b.trigger ∙ dev_of row.packet p.token p.asks

  taken : IsAtWork (without_packet row.token k) (jobs ++ job ∷ []) p.token
  taken = record {
    job = job;
    is_job = subst (λ (n : ℕ). job_of (jobs ++ job ∷ []) n ≡ Some job) (b.token ∙ sym (token_number k.waits.tokens row.token p.token p.is_open)) job_now;
    fs = fs_of;
    current = current_of;
  }

  had : (t : ℕ) (token : OpenToken) → (row.token == t) ≡ false → (is_some (queued_of k.queue t) ≡ true) ⊎ IsAtWork k jobs token → (is_some (queued_of (without_packet row.token k).queue t) ≡ true) ⊎ IsAtWork (without_packet row.token k) (jobs ++ job ∷ []) token
  had t token other (inl q) =
      inl (ap is_some (find_kept (λ (r : QueuedRow). r.token == t) (λ (r : QueuedRow). not (r.token == row.token)) (λ r e. differ_as_the_third r.token row.token t e other) k.queue) ∙ q)
  had t token other (inr w) = inr (record { job = w.job; is_job = stays token.token w.job w.is_job; fs = w.fs; current = w.current })

  has_packet_or_job : (t : ℕ) (token : OpenToken) (c : Bool) → (row.token == t) ≡ c → token_of k.waits.tokens t ≡ Some token → (is_some (queued_of (without_packet row.token k).queue t) ≡ true) ⊎ IsAtWork (without_packet row.token k) (jobs ++ job ∷ []) token
  has_packet_or_job t token true e is =
      let here : token_of k.waits.tokens row.token ≡ Some token = subst (λ (n : ℕ). token_of k.waits.tokens n ≡ Some token) (sym (equal_by_test row.token t e)) is in
      let open_now = p.is_open in
      let same : p.token ≡ token = cc in
      inr (subst (IsAtWork (without_packet row.token k) (jobs ++ job ∷ [])) same taken)
  has_packet_or_job t token false e is = had t token e (h.open_tokens t token is)

  old_packet : (other : QueuedRow) → not (other.token == row.token) ≡ true → IsInPipe k jobs other → IsInPipe (without_packet row.token k) (jobs ++ job ∷ []) other
  old_packet other keep q = record {
    token = q.token;
    is_open = q.is_open;
    numbered = q.numbered;
    asks = q.asks;
    current = q.current;
    untaken = still_none other.token (other_one other.token row.token keep) q.untaken;
  }

  old_work : (other : JobPlan) → (attach_of k other.trigger.fs ≡ Some other.attach → HasToken k other) → attach_of (without_packet row.token k) other.trigger.fs ≡ Some other.attach → HasToken (without_packet row.token k) other
  old_work other token_of_it current = let t = token_of_it current in record { token = t.token; is_open = t.is_open; fs = t.fs; trigger = t.trigger }

  new_work : HasToken (without_packet row.token k) job
  new_work = record {
    token = p.token;
    is_open = subst (λ (n : ℕ). token_of k.waits.tokens n ≡ Some p.token) (sym b.token) p.is_open;
    fs = fs_of;
    trigger = λ named. b.trigger ∙ reads row.packet p.token p.asks named;
  }

  pub taken_agree : TokensAgree (without_packet row.token k) (jobs ++ job ∷ [])
  taken_agree = record {
    once = h.once;
    packets = differ_filter (λ (r : QueuedRow). r.token) (λ (r : QueuedRow). not (r.token == row.token)) k.queue h.packets;
    numbers = differ_push (λ (r : JobPlan). r.token) jobs job h.numbers is_new;
    open_tokens = λ t token e. has_packet_or_job t token (row.token == t) refl e;
    in_pipe = each_kept (IsInPipe k jobs) (IsInPipe (without_packet row.token k) (jobs ++ job ∷ [])) (λ (r : QueuedRow). not (r.token == row.token)) k.queue old_packet h.in_pipe;
    at_work = All-push (λ (other : JobPlan). attach_of (without_packet row.token k) other.trigger.fs ≡ Some other.attach → HasToken (without_packet row.token k) other) jobs job
        (All-weaker (λ (other : JobPlan). attach_of k other.trigger.fs ≡ Some other.attach → HasToken k other) (λ (other : JobPlan). attach_of (without_packet row.token k) other.trigger.fs ≡ Some other.attach → HasToken (without_packet row.token k) other) old_work jobs h.at_work)
        (λ current. new_work);
  }
