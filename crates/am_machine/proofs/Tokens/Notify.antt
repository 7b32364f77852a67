-- Kernel and jobs agree on tokens still where the daemon is notified.
use Rattle.std.proofs.Common.{◌≡◌, ◌⊎◌, ℕ, ◌+◌, ◌≤◌, ◌<◌, Bool, true, false, cond, ◌==◌, List, [], ◌∷◌, ◌++◌, map, get_or, Option, Some, None, refl, sym, ap, subst, ◌∙◌, inl, inr, arith}
use Rattle.std.specs.Prelude.{is_some}
use Rattle.std.specs.List.{list_any, All}
use Rattle.std.proofs.lemmas.Bool.{cases_lt}
use Rattle.std.proofs.lemmas.List.Elements.{All-weaker, All-push}
use Rattle.am_names.specs.{same_trigger, OpenToken, RiseBy}
use Rattle.am_names.proofs.SameTriggers.{same_trigger_either_way}
use Rattle.am_names.proofs.Basics.{equal_to_itself, equal_by_test, found_passes}
use Rattle.am_wait.specs.{token_of, NumbersAreAllocated}
use Rattle.am_wait.proofs.FindLemmas.{or_first, find_append}
use Rattle.am_state.specs.{QueuedRow, Obs}
use Rattle.am_kernel.specs.{KernelState, attach_of, queued_of}
use Rattle.am_daemon.specs.{JobPlan, job_of}
use Rattle.am_laws.specs.{delivers}
use Rattle.am_machine.specs.{AreDifferent, names, FitsTrace, rows_of, asked_in, asked_by, IsInPipe, IsAtWork, TokensAgree}
use Rattle.am_machine.proofs.Traces.Counts.{any_none_of, delivers_names}
use Rattle.am_machine.proofs.Lists.Different.{all_found, differ_push, true_is_not_false}

-- ---- numbers that were given

-- the tokens rise, and neither a token nor a job is above the last that was given
pub record AreNumbered (tokens : List OpenToken) (last : ℕ) (jobs : List JobPlan) : Type 0 where
  pub rise : RiseBy (λ (row : OpenToken). row.token) 0 tokens
  pub given : NumbersAreAllocated last tokens
  pub jobs_given : (job : ℕ) → is_some (job_of jobs job) ≡ true → job ≤ last

pub numbered : (k : KernelState) (jobs : List JobPlan) (trace : List Obs) → FitsTrace (rows_of k jobs) trace → AreNumbered k.waits.tokens k.waits.last_token jobs
numbered k jobs trace h = record {
  rise = h.sound.tokens;
  given = h.sound.given;
  jobs_given = λ job is.
      elim (cases_lt k.waits.last_token job) [
        | inl above ↦ absurd (true_is_not_false (list_any (delivers job) trace) (h.delivered job is) (any_none_of (delivers job) (names job) trace (delivers_names job) (h.known job above)))
        | inr most ↦ most
      ];
}

given_by_cases : (last t : ℕ) (x row : OpenToken) (tokens : List OpenToken) (b : Bool) → x.token ≤ last → (x.token == t) ≡ b → (token_of tokens t ≡ Some row → t ≤ last) → cond b (Some x) (token_of tokens t) ≡ Some row → t ≤ last
given_by_cases last t x row tokens true most e later f = let same = equal_by_test x.token t e in omega (arith, most, same)
given_by_cases last t x row tokens false most e later f = later f

pub token_given : (last t : ℕ) (tokens : List OpenToken) (row : OpenToken) → NumbersAreAllocated last tokens → token_of tokens t ≡ Some row → t ≤ last
token_given last t [] row h e = absurd cc
token_given last t (x ∷ tokens) row h e = given_by_cases last t x row tokens (x.token == t) h.0 refl (token_given last t tokens row h.1) e

-- what would be above the last isn't there
none_new : {X : Type 0} (last t : ℕ) (o : Option X) → ((x : X) → o ≡ Some x → t ≤ last) → last < t → o ≡ None
none_new last t None h above = refl
none_new last t (Some x) h above = absurd (let most = h x refl in omega (arith, most, above))

-- ---- a token is new

-- the next token is open, and its packet is the last in the pipe of the current attachment; no other
-- token is open on its trigger
pub record Notices (k made : KernelState) (new : OpenToken) (packet : QueuedRow) : Type 0 where
  pub tokens : made.waits.tokens ≡ k.waits.tokens ++ new ∷ []
  pub queue : made.queue ≡ k.queue ++ packet ∷ []
  pub attach : (fs : ℕ) → attach_of made fs ≡ attach_of k fs
  pub token : new.token ≡ k.waits.last_token + 1
  pub its : packet.token ≡ new.token
  pub its_number : packet.packet.token ≡ packet.token
  pub asks : asked_in packet.packet ≡ asked_by new
  pub current : attach_of k new.trigger.fs ≡ Some packet.attach
  pub idle : (t : ℕ) (row : OpenToken) → token_of k.waits.tokens t ≡ Some row → same_trigger row.trigger new.trigger ≡ false

either_by_cases : (o : Option OpenToken) (b : Bool) (new row : OpenToken) → or_first o (cond b (Some new) None) ≡ Some row → (o ≡ Some row) ⊎ ((b ≡ true) × (new ≡ row))
either_by_cases (Some old) b new row e = inl e
either_by_cases None true new row e = inr (refl, cc)
either_by_cases None false new row e = absurd cc

some_first : {X : Type 0} (o : Option X) (b : Bool) (x : X) → (is_some o ≡ true) ⊎ (b ≡ true) → is_some (or_first o (cond b (Some x) None)) ≡ true
some_first (Some y) b x h = refl
some_first None true x h = refl
some_first None false x (inl h) = h
some_first None false x (inr h) = absurd cc

module _ (k made : KernelState) (jobs : List JobPlan) (new : OpenToken) (packet : QueuedRow) (n : Notices k made new packet) (g : AreNumbered k.waits.tokens k.waits.last_token jobs) (h : TokensAgree k jobs) where
  now : (t : ℕ) → token_of made.waits.tokens t ≡ or_first (token_of k.waits.tokens t) (cond (new.token == t) (Some new) None)
  now t = ap (λ (tokens : List OpenToken). token_of tokens t) n.tokens ∙ find_append (λ (r : OpenToken). r.token == t) k.waits.tokens (new ∷ [])

  either_open : (t : ℕ) (row : OpenToken) → token_of made.waits.tokens t ≡ Some row → (token_of k.waits.tokens t ≡ Some row) ⊎ (((new.token == t) ≡ true) × (new ≡ row))
  either_open t row e = either_by_cases (token_of k.waits.tokens t) (new.token == t) new row (sym (now t) ∙ e)

  still_open : (t : ℕ) (row : OpenToken) → token_of k.waits.tokens t ≡ Some row → token_of made.waits.tokens t ≡ Some row
  still_open t row e = now t ∙ ap (λ (o : Option OpenToken). or_first o (cond (new.token == t) (Some new) None)) e

  none_yet : token_of k.waits.tokens new.token ≡ None
  none_yet = none_new k.waits.last_token new.token (token_of k.waits.tokens new.token) (λ row e. token_given k.waits.last_token new.token k.waits.tokens row g.given e) (omega (arith, n.token))

  new_open : token_of made.waits.tokens new.token ≡ Some new
  new_open = now new.token ∙ rw (none_yet, equal_to_itself new.token) refl

  not_queued : queued_of k.queue packet.token ≡ None
  not_queued =
      none_new k.waits.last_token packet.token (queued_of k.queue packet.token)
      (λ row e.
      let p = all_found (IsInPipe k jobs) (λ (r : QueuedRow). r.token == packet.token) k.queue row h.in_pipe e in
      let most = token_given k.waits.last_token row.token k.waits.tokens p.token g.given p.is_open in
      let same : row.token ≡ packet.token = equal_by_test row.token packet.token (found_passes (λ (r : QueuedRow). r.token == packet.token) k.queue row e) in
      omega (arith, most, same)) (omega (arith, n.token, n.its))

  no_job : job_of jobs packet.token ≡ None
  no_job =
      none_new k.waits.last_token packet.token (job_of jobs packet.token) (λ job e. g.jobs_given packet.token (ap is_some e)) (omega (arith, n.token, n.its))

  queued_now : (t : ℕ) → (is_some (queued_of k.queue t) ≡ true) ⊎ ((packet.token == t) ≡ true) → is_some (queued_of made.queue t) ≡ true
  queued_now t either =
      ap is_some (ap (λ (queue : List QueuedRow). queued_of queue t) n.queue ∙ find_append (λ (r : QueuedRow). r.token == t) k.queue (packet ∷ []))
      ∙ some_first (queued_of k.queue t) (packet.token == t) packet either

  once_by_cases : (a b : ℕ) (x y : OpenToken) → (token_of k.waits.tokens a ≡ Some x) ⊎ (((new.token == a) ≡ true) × (new ≡ x)) → (token_of k.waits.tokens b ≡ Some y) ⊎ (((new.token == b) ≡ true) × (new ≡ y)) → same_trigger x.trigger y.trigger ≡ true → a ≡ b
  once_by_cases a b x y (inl p) (inl q) same = h.once a b x y p q same
  once_by_cases a b x y (inl p) (inr q) same =
      absurd (true_is_not_false (same_trigger x.trigger new.trigger) (subst (λ (r : OpenToken). same_trigger x.trigger r.trigger ≡ true) (sym q.1) same) (n.idle a x p))
  once_by_cases a b x y (inr p) (inl q) same =
      absurd (true_is_not_false (same_trigger y.trigger new.trigger) (same_trigger_either_way y.trigger new.trigger ∙ subst (λ (r : OpenToken). same_trigger r.trigger y.trigger ≡ true) (sym p.1) same) (n.idle b y q))
  once_by_cases a b x y (inr p) (inr q) same = sym (equal_by_test new.token a p.0) ∙ equal_by_test new.token b q.0

  had : (t : ℕ) (row : OpenToken) → (is_some (queued_of k.queue t) ≡ true) ⊎ IsAtWork k jobs row → (is_some (queued_of made.queue t) ≡ true) ⊎ IsAtWork made jobs row
  had t row (inl q) = inl (queued_now t (inl q))
  had t row (inr w) = inr (record { job = w.job; is_job = w.is_job; fs = w.fs; current = n.attach row.trigger.fs ∙ w.current })

  has_packet_or_job : (t : ℕ) (row : OpenToken) → (token_of k.waits.tokens t ≡ Some row) ⊎ (((new.token == t) ≡ true) × (new ≡ row)) → (is_some (queued_of made.queue t) ≡ true) ⊎ IsAtWork made jobs row
  has_packet_or_job t row (inl p) = had t row (h.open_tokens t row p)
  has_packet_or_job t row (inr p) = inl (queued_now t (inr (ap (λ (m : ℕ). m == t) n.its ∙ p.0)))

  old_packet : (row : QueuedRow) → IsInPipe k jobs row → IsInPipe made jobs row
  old_packet row p = record {
    token = p.token;
    is_open = still_open row.token p.token p.is_open;
    numbered = p.numbered;
    asks = p.asks;
    current = n.attach p.token.trigger.fs ∙ p.current;
    untaken = p.untaken;
  }

  new_packet : IsInPipe made jobs packet
  new_packet = record {
    token = new;
    is_open = subst (λ (t : ℕ). token_of made.waits.tokens t ≡ Some new) (sym n.its) new_open;
    numbered = n.its_number;
    asks = n.asks;
    current = n.attach new.trigger.fs ∙ n.current;
    untaken = no_job;
  }

  pub notices_agree : TokensAgree made jobs
  notices_agree = record {
    once = λ a b x y p q same. once_by_cases a b x y (either_open a x p) (either_open b y q) same;
    packets = subst (λ (queue : List QueuedRow). AreDifferent (map (λ (row : QueuedRow). row.token) queue)) (sym n.queue) (differ_push (λ (row : QueuedRow). row.token) k.queue packet h.packets not_queued);
    numbers = h.numbers;
    open_tokens = λ t row e. has_packet_or_job t row (either_open t row e);
    in_pipe = subst (λ (queue : List QueuedRow). All (IsInPipe made jobs) queue) (sym n.queue) (All-push (IsInPipe made jobs) k.queue packet (All-weaker (IsInPipe k jobs) (IsInPipe made jobs) old_packet k.queue h.in_pipe) new_packet);
    at_work = λ i d lt current.
        let job = get_or jobs i d in
        let t = h.at_work i d lt (sym (n.attach job.trigger.fs) ∙ current) in
        record { token = t.token; is_open = still_open job.token t.token t.is_open; fs = t.fs; trigger = t.trigger };
  }
