-- Kernel and jobs agree on tokens still where tokens and packets stay, and new attachments are new.
use Rattle.std.proofs.Common.{◌≡◌, ◌⊎◌, ℕ, ◌+◌, ◌≤◌, ◌==◌, true, List, [], map, get_or, Option, Some, None, sym, ap, subst, ◌∙◌, inl, inr, arith}
use Rattle.std.specs.Prelude.{is_some, find, if◌then◌else◌}
use Rattle.std.specs.Option.{option_map}
use Rattle.std.specs.List.{All}
use Rattle.std.proofs.lemmas.List.Elements.{All-weaker}
use Rattle.am_names.specs.{same_trigger, OpenToken}
use Rattle.am_names.specs.declared.trigger.Trigger.{Trigger}
use Rattle.am_wait.specs.{token_of}
use Rattle.am_trigger.specs.{Autofs}
use Rattle.am_state.specs.{QueuedRow}
use Rattle.am_kernel.specs.{Attached, KernelState, is_live_row, latest_attach, attach_of, queued_of}
use Rattle.am_daemon.specs.{DaemonState, JobPlan, job_of}
use Rattle.am_machine.specs.{NumbersAreAllocated, AreDifferent, asked_by, is_named, IsInPipe, IsAtWork, HasToken, TokensAgree}
use Rattle.am_machine.proofs.Attachments.Grows.{Grows}
use Rattle.am_machine.proofs.Lists.Different.{mapped_some}

-- a token without its waiters
abbrev pub bare : OpenToken → OpenToken
bare row = record row { waiters = [] }

-- tokens stay but for their waiters, and so do packets and attachments, but for new ones
pub record Stays (k made : KernelState) : Type 0 where
  pub tokens : (t : ℕ) → option_map bare (token_of made.waits.tokens t) ≡ option_map bare (token_of k.waits.tokens t)
  pub queue : made.queue ≡ k.queue
  pub grows : (fs : ℕ) → Grows k made fs

-- what is the current attachment stays so
pub still_current : (k made : KernelState) (fs attach : ℕ) → Grows k made fs → attach_of k fs ≡ Some attach → attach_of made fs ≡ Some attach
still_current k made fs attach (inl e) h = e ∙ h
still_current k made fs attach (inr e) h = absurd (let none = e.0 in cc)

-- and what is one now, and isn't new, was one
pub was_current : (k made : KernelState) (fs attach : ℕ) → Grows k made fs → attach ≤ k.last_attach → attach_of made fs ≡ Some attach → attach_of k fs ≡ Some attach
was_current k made fs attach (inl e) most h = sym e ∙ h
was_current k made fs attach (inr e) most h = let is = e.1 in let same : attach ≡ k.last_attach + 1 = cc in absurd (omega (arith, same, most))

-- the row of a token, and what it was
pub token_before : (k made : KernelState) (t : ℕ) (row : OpenToken) → Stays k made → token_of made.waits.tokens t ≡ Some row → (old : OpenToken) × (token_of k.waits.tokens t ≡ Some old) × (bare old ≡ bare row)
token_before k made t row s e = mapped_some bare (token_of made.waits.tokens t) (token_of k.waits.tokens t) row (sym (s.tokens t)) e

pub token_later : (k made : KernelState) (t : ℕ) (row : OpenToken) → Stays k made → token_of k.waits.tokens t ≡ Some row → (new : OpenToken) × (token_of made.waits.tokens t ≡ Some new) × (bare new ≡ bare row)
token_later k made t row s e = mapped_some bare (token_of k.waits.tokens t) (token_of made.waits.tokens t) row (s.tokens t) e

fs_of : (a b : OpenToken) → bare a ≡ bare b → a.trigger.fs ≡ b.trigger.fs
fs_of a b e = ap (λ (r : OpenToken). r.trigger.fs) e

trigger_same : (a b : OpenToken) → bare a ≡ bare b → a.trigger ≡ b.trigger
trigger_same a b e = ap (λ (r : OpenToken). r.trigger) e

asks_same : (a b : OpenToken) → bare a ≡ bare b → asked_by a ≡ asked_by b
asks_same a b e = ap asked_by e

same_trigger_of_equals : (a b x y : Trigger) → a ≡ x → b ≡ y → same_trigger x y ≡ true → same_trigger a b ≡ true
same_trigger_of_equals a b x y p q h = subst (λ (g : Trigger). same_trigger g b ≡ true) (sym p) (subst (λ (g : Trigger). same_trigger x g ≡ true) (sym q) h)

has_packet_or_job : (k made : KernelState) (jobs : List JobPlan) (old row : OpenToken) → Stays k made → bare old ≡ bare row → (t : ℕ) → (is_some (queued_of k.queue t) ≡ true) ⊎ IsAtWork k jobs old → (is_some (queued_of made.queue t) ≡ true) ⊎ IsAtWork made jobs row
has_packet_or_job k made jobs old row s e t (inl q) = inl (subst (λ (queue : List QueuedRow). is_some (queued_of queue t) ≡ true) (sym s.queue) q)
has_packet_or_job k made jobs old row s e t (inr w) =
    inr (record {
      job = w.job;
      is_job = subst (λ (n : ℕ). job_of jobs n ≡ Some w.job) (ap (λ (r : OpenToken). r.token) e) w.is_job;
      fs = w.fs ∙ fs_of old row e;
      current = still_current k made row.trigger.fs w.job.attach (s.grows row.trigger.fs) (subst (λ (fs : ℕ). attach_of k fs ≡ Some w.job.attach) (fs_of old row e) w.current);
    })

pub pipe_stays : (k made : KernelState) (jobs : List JobPlan) (row : QueuedRow) → Stays k made → IsInPipe k jobs row → IsInPipe made jobs row
pipe_stays k made jobs row s p =
    let new = token_later k made row.token p.token s p.is_open in
    let fs = fs_of new.0 p.token new.2 in
    record {
      token = new.0;
      is_open = new.1;
      numbered = p.numbered;
      asks = p.asks ∙ sym (asks_same new.0 p.token new.2);
      current = subst (λ (n : ℕ). attach_of made n ≡ Some row.attach) (sym fs) (still_current k made p.token.trigger.fs row.attach (s.grows p.token.trigger.fs) p.current);
      untaken = p.untaken;
    }

token_stays : (k made : KernelState) (job : JobPlan) → Stays k made → HasToken k job → HasToken made job
token_stays k made job s h =
    let new = token_later k made job.token h.token s h.is_open in
    let trigger = trigger_same new.0 h.token new.2 in
    record {
      token = new.0;
      is_open = new.1;
      fs = h.fs ∙ sym (fs_of new.0 h.token new.2);
      trigger = λ named. h.trigger (ap is_named (sym trigger) ∙ named) ∙ sym trigger;
    }

pub stays_agree : (k made : KernelState) (jobs : List JobPlan) → Stays k made → All (λ (row : JobPlan). row.attach ≤ k.last_attach) jobs → TokensAgree k jobs → TokensAgree made jobs
stays_agree k made jobs s most h = record {
  once = λ a b x y p q same.
      let one = token_before k made a x s p in
      let two = token_before k made b y s q in
      h.once a b one.0 two.0 one.1 two.1 (same_trigger_of_equals one.0.trigger two.0.trigger x.trigger y.trigger (ap (λ (r : OpenToken). r.trigger) one.2) (ap (λ (r : OpenToken). r.trigger) two.2) same);
  packets = subst (λ (queue : List QueuedRow). AreDifferent (map (λ (row : QueuedRow). row.token) queue)) (sym s.queue) h.packets;
  numbers = h.numbers;
  open_tokens = λ t row e. let old = token_before k made t row s e in has_packet_or_job k made jobs old.0 row s old.2 t (h.open_tokens t old.0 old.1);
  in_pipe = subst (λ (queue : List QueuedRow). All (IsInPipe made jobs) queue) (sym s.queue) (All-weaker (IsInPipe k jobs) (IsInPipe made jobs) (λ row p. pipe_stays k made jobs row s p) k.queue h.in_pipe);
  at_work = λ i d lt current.
      let job = get_or jobs i d in
      token_stays k made job s (h.at_work i d lt (was_current k made job.trigger.fs job.attach (s.grows job.trigger.fs) (most i d lt) current));
}

-- ---- changes of the kernel that concern no token, packet or attachment

pub record SameTokens (k made : KernelState) : Type 0 where
  pub tokens : made.waits.tokens ≡ k.waits.tokens
  pub queue : made.queue ≡ k.queue
  pub attached : made.attached ≡ k.attached
  pub autofs : made.triggers.autofs ≡ k.triggers.autofs

abbrev attach_in : List Autofs → List Attached → ℕ → Option ℕ
attach_in autofs attached fs = if is_live_row (find (λ (row : Autofs). row.fs == fs) autofs) then latest_attach attached fs else None

same_stays : (k made : KernelState) → SameTokens k made → Stays k made
same_stays k made s = record {
  tokens = λ t. ap (λ (tokens : List OpenToken). option_map bare (token_of tokens t)) s.tokens;
  queue = s.queue;
  grows = λ fs. inl (ap (λ (autofs : List Autofs). attach_in autofs made.attached fs) s.autofs ∙ ap (λ (attached : List Attached). attach_in k.triggers.autofs attached fs) s.attached);
}

-- the attachments of all jobs were given
pub jobs_given : (k : KernelState) (d : DaemonState) → NumbersAreAllocated k d → All (λ (row : JobPlan). row.attach ≤ k.last_attach) d.jobs
jobs_given k d h = λ i x lt. (h.jobs i x lt).0

pub same_agree : (k made : KernelState) (d : DaemonState) → SameTokens k made → NumbersAreAllocated k d → TokensAgree k d.jobs → TokensAgree made d.jobs
same_agree k made d s given h = stays_agree k made d.jobs (same_stays k made s) (jobs_given k d given) h
