-- Kernel and jobs agree on tokens still where a file system becomes catatonic.
use Rattle.std.proofs.Common.{◌≡◌, ◌⊎◌, ℕ, Bool, true, false, cond, not, ◌==◌, List, get_or, Option, Some, None, refl, sym, ap, subst, ◌∙◌, inl, inr}
use Rattle.std.specs.Prelude.{is_some}
use Rattle.am_names.specs.{OpenToken, RiseBy}
use Rattle.am_names.proofs.Basics.{equal_by_test, value_where_some, found_passes}
use Rattle.am_wait.specs.{token_of}
use Rattle.am_wait.proofs.FindLemmas.{unless_of, tokens_off}
use Rattle.am_wire.specs.{Packet}
use Rattle.am_state.specs.{QueuedRow}
use Rattle.am_kernel.specs.{KernelState, attach_of, queued_of, is_packet_of, made_catatonic}
use Rattle.am_daemon.specs.{JobPlan}
use Rattle.am_machine.specs.{Asked, asked_in, asked_by, IsInPipe, IsAtWork, HasToken, TokensAgree}
use Rattle.am_machine.proofs.Attachments.Grows.{attach_closed, attach_other}
use Rattle.am_machine.proofs.Lists.Different.{all_found, each_kept, found_stays, differ_filter}

-- the row that a number finds has it
pub token_number : (tokens : List OpenToken) (t : ℕ) (row : OpenToken) → token_of tokens t ≡ Some row → row.token ≡ t
token_number tokens t row e = equal_by_test row.token t (found_passes (λ (r : OpenToken). r.token == t) tokens row e)

-- a packet is of the file system of what it asks for
pub dev_of : (packet : Packet) (row : OpenToken) → asked_in packet ≡ asked_by row → packet.dev ≡ row.trigger.fs
dev_of packet row e = ap (λ (a : Asked). a.trigger.fs) e

-- a packet in the pipe is for the trigger of its token
pub queued_row : (k : KernelState) (jobs : List JobPlan) (t : ℕ) (token : OpenToken) (row : QueuedRow) → TokensAgree k jobs → token_of k.waits.tokens t ≡ Some token → queued_of k.queue t ≡ Some row → row.packet.dev ≡ token.trigger.fs
queued_row k jobs t token row h is e =
    let p = all_found (IsInPipe k jobs) (λ (r : QueuedRow). r.token == t) k.queue row h.in_pipe e in
    let number : row.token ≡ t = equal_by_test row.token t (found_passes (λ (r : QueuedRow). r.token == t) k.queue row e) in
    let here : token_of k.waits.tokens t ≡ Some p.token = subst (λ (n : ℕ). token_of k.waits.tokens n ≡ Some p.token) number p.is_open in
    let same : p.token ≡ token = cc in
    dev_of row.packet p.token p.asks ∙ ap (λ (r : OpenToken). r.trigger.fs) same

unless_some : (fs : ℕ) (row : OpenToken) (b : Bool) → (row.trigger.fs == fs) ≡ b → b ≡ false → unless_of fs (Some row) ≡ Some row
unless_some fs row true e h = absurd cc
unless_some fs row false e h = rw e refl

kept_by_cases : (b : Bool) (old row : OpenToken) → cond b None (Some old) ≡ Some row → (b ≡ false) × (old ≡ row)
kept_by_cases true old row e = absurd cc
kept_by_cases false old row e = (refl, cc)

pub kept_row : (fs : ℕ) (o : Option OpenToken) (row : OpenToken) → unless_of fs o ≡ Some row → (o ≡ Some row) × ((row.trigger.fs == fs) ≡ false)
kept_row fs None row e = absurd cc
kept_row fs (Some old) row e =
    let both = kept_by_cases (old.trigger.fs == fs) old row e in
    (ap (λ (r : OpenToken). Some r) both.1, ap (λ (r : OpenToken). r.trigger.fs == fs) (sym both.1) ∙ both.0)

not_its : (fs : ℕ) (row : QueuedRow) (b : Bool) → (row.packet.dev == fs) ≡ b → not (row.packet.dev == fs) ≡ true → b ≡ false
not_its fs row true e h = absurd (let g : not (row.packet.dev == fs) ≡ false = ap not e in cc)
not_its fs row false e h = refl

module _ (k : KernelState) (jobs : List JobPlan) (fs : ℕ) (rise : RiseBy (λ (row : OpenToken). row.token) 0 k.waits.tokens) (h : TokensAgree k jobs) where
  left : (t : ℕ) → token_of (made_catatonic fs k).waits.tokens t ≡ unless_of fs (token_of k.waits.tokens t)
  left t = tokens_off fs t 0 k.waits.tokens rise

  was_open : (t : ℕ) (row : OpenToken) → token_of (made_catatonic fs k).waits.tokens t ≡ Some row → (token_of k.waits.tokens t ≡ Some row) × ((row.trigger.fs == fs) ≡ false)
  was_open t row e = kept_row fs (token_of k.waits.tokens t) row (sym (left t) ∙ e)

  still_open : (t : ℕ) (row : OpenToken) → token_of k.waits.tokens t ≡ Some row → (row.trigger.fs == fs) ≡ false → token_of (made_catatonic fs k).waits.tokens t ≡ Some row
  still_open t row e other = left t ∙ ap (unless_of fs) e ∙ unless_some fs row (row.trigger.fs == fs) refl other

  has_packet_or_job : (t : ℕ) (row : OpenToken) → token_of k.waits.tokens t ≡ Some row → (row.trigger.fs == fs) ≡ false → (is_some (queued_of k.queue t) ≡ true) ⊎ IsAtWork k jobs row → (is_some (queued_of (made_catatonic fs k).queue t) ≡ true) ⊎ IsAtWork (made_catatonic fs k) jobs row
  has_packet_or_job t row e other (inl q) =
      let found = value_where_some (queued_of k.queue t) q in
      let dev = queued_row k jobs t row found.0 h e found.1 in
      let keep : not (is_packet_of fs found.0) ≡ true = ap not (ap (λ (n : ℕ). n == fs) dev ∙ other) in
      inl (ap is_some (found_stays (λ (r : QueuedRow). r.token == t) (λ (r : QueuedRow). not (is_packet_of fs r)) k.queue found.0 found.1 keep))
  has_packet_or_job t row e other (inr w) = inr (record { job = w.job; is_job = w.is_job; fs = w.fs; current = attach_other k fs row.trigger.fs other ∙ w.current })

  pipe_left : (row : QueuedRow) → not (is_packet_of fs row) ≡ true → IsInPipe k jobs row → IsInPipe (made_catatonic fs k) jobs row
  pipe_left row keep p =
      let other : (p.token.trigger.fs == fs) ≡ false = ap (λ (n : ℕ). n == fs) (sym (dev_of row.packet p.token p.asks)) ∙ not_its fs row (row.packet.dev == fs) refl keep in
      record {
        token = p.token;
        is_open = still_open row.token p.token p.is_open other;
        numbered = p.numbered;
        asks = p.asks;
        current = attach_other k fs p.token.trigger.fs other ∙ p.current;
        untaken = p.untaken;
      }

  work_left : (job : JobPlan) (b : Bool) → (job.trigger.fs == fs) ≡ b → (attach_of k job.trigger.fs ≡ Some job.attach → HasToken k job) → attach_of (made_catatonic fs k) job.trigger.fs ≡ Some job.attach → HasToken (made_catatonic fs k) job
  work_left job true e had current =
      absurd (let none : attach_of (made_catatonic fs k) job.trigger.fs ≡ None = ap (attach_of (made_catatonic fs k)) (equal_by_test job.trigger.fs fs e) ∙ attach_closed k fs in cc)
  work_left job false e had current =
      let t = had (sym (attach_other k fs job.trigger.fs e) ∙ current) in
      record { token = t.token; is_open = still_open job.token t.token t.is_open (ap (λ (n : ℕ). n == fs) (sym t.fs) ∙ e); fs = t.fs; trigger = t.trigger }

  pub closed_agree : TokensAgree (made_catatonic fs k) jobs
  closed_agree = record {
    once = λ a b x y p q same. h.once a b x y (was_open a x p).0 (was_open b y q).0 same;
    packets = differ_filter (λ (row : QueuedRow). row.token) (λ (row : QueuedRow). not (is_packet_of fs row)) k.queue h.packets;
    numbers = h.numbers;
    open_tokens = λ t row e. let old = was_open t row e in has_packet_or_job t row old.0 old.1 (h.open_tokens t row old.0);
    in_pipe = each_kept (IsInPipe k jobs) (IsInPipe (made_catatonic fs k) jobs) (λ (row : QueuedRow). not (is_packet_of fs row)) k.queue pipe_left h.in_pipe;
    at_work = λ i d lt current. let job = get_or jobs i d in work_left job (job.trigger.fs == fs) refl (h.at_work i d lt) current;
  }
