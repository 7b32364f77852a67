-- What walkers do keeps what kernel and jobs agree on of tokens.
use Rattle.std.proofs.Common.{◌≡◌, ℕ, ◌+◌, Bool, true, false, not, ◌&&◌, ◌==◌, List, [], ◌∷◌, Option, Some, None, refl, ap, ◌∙◌, inl}
use Rattle.std.specs.Prelude.{is_some}
use Rattle.std.specs.Option.{option_map}
use Rattle.std.proofs.lemmas.List.Elements.{filter_passes, All-weaker}
use Rattle.am_names.specs.{same_trigger, OpenToken, TokenKind, WaitRow}
use Rattle.am_names.specs.declared.trigger.Trigger.{Trigger}
use Rattle.am_names.specs.declared.row.TokenKind.TheVariants.{Missing, Expire}
use Rattle.am_state.specs.{QueuedRow, Obs}
use Rattle.am_wait.specs.{WaitRows, token_of, is_open_on, same_kind, open_on, joined_on}
use Rattle.am_wait.proofs.CallLemmas.{is_none_of}
use Rattle.am_wait.proofs.FindLemmas.{joined_if, token_joined}
use Rattle.am_expire.specs.{Expiry, is_due, is_open, may_go, mount_on, is_eligible, candidates, pick_of}
use Rattle.am_walk.specs.{IsIdle}
use Rattle.am_kernel.specs.{Attempt, KernelState, packet_for, attach_of}
use Rattle.am_daemon.specs.{DaemonState}
use Rattle.am_kernel.specs.Walks as walks
use Rattle.am_kernel.specs.Expires as expires
use Rattle.am_machine.specs.{NumbersAreAllocated, TokensAgree}
use Rattle.am_machine.proofs.Attachments.Changes.{given_freed}
use Rattle.am_machine.proofs.Lists.Different.{found_none}
use Rattle.am_machine.proofs.Tokens.Catatonic.{closed_agree}
use Rattle.am_machine.proofs.Tokens.Unchanged.{bare, stays_agree, jobs_given, same_agree}
use Rattle.am_machine.proofs.Tokens.Notify.{notices_agree, AreNumbered}
use Rattle.am_kernel.specs.Resumes as resumes
use Rattle.am_names.proofs.Basics.{neither_of_or, both_of_and, equal_by_test, none_where_mapped_none, false_where_not}
use Rattle.am_machine.proofs.Traces.Walks.{packet_asks}
use Rattle.am_machine.proofs.Tour.Picked.{picked_candidate}
use Rattle.am_machine.proofs.Tour.Walks as tour
use Rattle.am_machine.proofs.Tour.Walks.{AnyPath}

-- where the attachments of jobs were given, and tokens are numbered as the trace has it
abbrev pub AgreesBy : KernelState → List Obs → KernelState → Type 0
AgreesBy k shown made = (d : DaemonState) → AreNumbered k.waits.tokens k.waits.last_token d.jobs → NumbersAreAllocated k d → TokensAgree k d.jobs → TokensAgree made d.jobs

-- ---- no token is open on an idle trigger

first_false : (a b : Bool) → b ≡ true → (a && b) ≡ false → a ≡ false
first_false true b h e = absurd cc
first_false false b h e = refl

kind_itself : (kind : TokenKind) → same_kind kind kind ≡ true
kind_itself Missing = refl
kind_itself Expire = refl

other_trigger : (tokens : List OpenToken) (trigger : Trigger) (t : ℕ) (row : OpenToken) → open_on tokens row.kind trigger ≡ None → token_of tokens t ≡ Some row → same_trigger row.trigger trigger ≡ false
other_trigger tokens trigger t row none e =
    first_false (same_trigger row.trigger trigger) (same_kind row.kind row.kind) (kind_itself row.kind)
    (found_none (λ (r : OpenToken). is_open_on row.kind trigger r) (λ (r : OpenToken). r.token == t) tokens row (none_where_mapped_none (λ (row : OpenToken). row.token) _ none) e)

either_kind : (tokens : List OpenToken) (trigger : Trigger) (kind : TokenKind) → IsIdle tokens trigger → open_on tokens kind trigger ≡ None
either_kind tokens trigger Missing idle = idle.1
either_kind tokens trigger Expire idle = idle.0

idle_differs : (tokens : List OpenToken) (trigger : Trigger) (t : ℕ) (row : OpenToken) → IsIdle tokens trigger → token_of tokens t ≡ Some row → same_trigger row.trigger trigger ≡ false
idle_differs tokens trigger t row idle e = other_trigger tokens trigger t row (either_kind tokens trigger row.kind idle) e

-- ---- a walker joins

bare_joined : (b : Bool) (walker : ℕ) (o : Option OpenToken) → option_map bare (joined_if b walker o) ≡ option_map bare o
bare_joined true walker None = refl
bare_joined true walker (Some row) = refl
bare_joined false walker o = refl

pub tokens_joined : (o : Option OpenToken) (token walker t : ℕ) (w : WaitRows) → option_map bare (token_of (joined_on o token walker w).tokens t) ≡ option_map bare (token_of w.tokens t)
tokens_joined None token walker t w = refl
tokens_joined (Some row) token walker t w = ap (option_map bare) (token_joined token walker t w.tokens (token == t) refl) ∙ bare_joined (token == t) walker (token_of w.tokens t)

pub last_joined : (o : Option OpenToken) (token walker : ℕ) (w : WaitRows) → (joined_on o token walker w).last_token ≡ w.last_token
last_joined None token walker w = refl
last_joined (Some row) token walker w = refl

joined_agrees : (k : KernelState) (attempt : Attempt) (token : ℕ) (passed : List Trigger) (d : DaemonState) → NumbersAreAllocated k d → TokensAgree k d.jobs → TokensAgree (walks.with_joined attempt token passed k) d.jobs
joined_agrees k attempt token passed d given h =
    stays_agree k (walks.with_joined attempt token passed k) d.jobs
    (record { tokens = λ t. tokens_joined (token_of k.waits.tokens token) token attempt.walker t k.waits; queue = refl; grows = λ fs. inl refl })
    (jobs_given k d given) h

-- ---- the daemon is notified

abbrev pub notice_token : KernelState → ℕ → Trigger → TokenKind → OpenToken
notice_token k walker trigger kind = record { token = k.waits.last_token + 1; trigger = trigger; kind = kind; waiters = walker ∷ [] }

abbrev pub notice_packet : KernelState → ℕ → ℕ → Trigger → TokenKind → QueuedRow
notice_packet k walker attach trigger kind = record { token = k.waits.last_token + 1; attach = attach; packet = packet_for kind (k.waits.last_token + 1) walker trigger }

notified_agrees : (k : KernelState) (attempt : Attempt) (trigger : Trigger) (attach : ℕ) (passed : List Trigger) → attach_of k trigger.fs ≡ Some attach → IsIdle k.waits.tokens trigger →
    (d : DaemonState) → AreNumbered k.waits.tokens k.waits.last_token d.jobs → TokensAgree k d.jobs → TokensAgree (walks.with_notified attempt trigger attach passed k) d.jobs
notified_agrees k attempt trigger attach passed is idle d n h =
    notices_agree k (walks.with_notified attempt trigger attach passed k) d.jobs (notice_token k attempt.walker trigger Missing) (notice_packet k attempt.walker attach trigger Missing)
    (record {
      tokens = refl;
      queue = refl;
      attach = λ fs. refl;
      token = refl;
      its = refl;
      its_number = refl;
      asks = packet_asks Missing (k.waits.last_token + 1) attempt.walker trigger.fs trigger.name;
      current = is;
      idle = λ t row e. idle_differs k.waits.tokens trigger t row idle e;
    }) n h

expiring_agrees : (k : KernelState) (walker : ℕ) (trigger : Trigger) (attach : ℕ) → attach_of k trigger.fs ≡ Some attach → IsIdle k.waits.tokens trigger →
    (d : DaemonState) → AreNumbered k.waits.tokens k.waits.last_token d.jobs → TokensAgree k d.jobs → TokensAgree (expires.with_expiring walker trigger attach k) d.jobs
expiring_agrees k walker trigger attach is idle d n h =
    notices_agree k (expires.with_expiring walker trigger attach k) d.jobs (notice_token k walker trigger Expire) (notice_packet k walker attach trigger Expire)
    (record {
      tokens = refl;
      queue = refl;
      attach = λ fs. refl;
      token = refl;
      its = refl;
      its_number = refl;
      asks = packet_asks Expire (k.waits.last_token + 1) walker trigger.fs trigger.name;
      current = is;
      idle = λ t row e. idle_differs k.waits.tokens trigger t row idle e;
    }) n h

-- ---- an expiry

-- what is picked is a trigger of the file system on which no token is open
abbrev IsPicked : Expiry → Trigger → Type 0
IsPicked e trigger = (trigger.fs ≡ e.fs) × IsIdle e.waits.tokens trigger

eligible : (e : Expiry) (row : Trigger × ℕ) → is_eligible e row ≡ true → IsPicked e row.0
eligible e row h =
    let one = row.0.fs == e.fs in
    let due = is_due e.timeout e.moment e.immediate row.1 in
    let shut = not (is_open e.waits row.0) in
    let first = both_of_and (one && due && shut) (may_go e.table e.uses (mount_on e row.0)) h in
    let second = both_of_and (one && due) shut first.0 in
    let third = both_of_and one due second.0 in
    let closed = neither_of_or (is_some (open_on e.waits.tokens Missing row.0)) (is_some (open_on e.waits.tokens Expire row.0)) (false_where_not (is_open e.waits row.0) second.1) in
    (equal_by_test row.0.fs e.fs third.0, (is_none_of (open_on e.waits.tokens Expire row.0) closed.1, is_none_of (open_on e.waits.tokens Missing row.0) closed.0))

picked : (e : Expiry) (trigger : Trigger) → pick_of e ≡ Some trigger → IsPicked e trigger
picked e trigger h =
    picked_candidate (IsPicked e) e trigger h
    (All-weaker (λ (row : Trigger × ℕ). is_eligible e row ≡ true) (λ (row : Trigger × ℕ). IsPicked e row.0) (eligible e) (candidates e) (filter_passes (is_eligible e) e.triggers.uses))

-- ---- a wait is collected

-- what keeps the tokens once the wait is collected keeps them
after_freed : (kind : TokenKind) (k : KernelState) (wait : WaitRow) (moment : ℕ) (shown : List Obs) (made : KernelState) → AgreesBy (resumes.wait_collected_from kind wait moment k) shown made → AgreesBy k shown made
after_freed Missing k wait moment shown made later d n given h =
    later d n (given_freed Missing k wait moment d given) (same_agree k (resumes.wait_collected_from Missing wait moment k) d (record { tokens = refl; queue = refl; attached = refl; autofs = refl }) given h)
after_freed Expire k wait moment shown made later d n given h =
    later d n (given_freed Expire k wait moment d given) (same_agree k (resumes.wait_collected_from Expire wait moment k) d (record { tokens = refl; queue = refl; attached = refl; autofs = refl }) given h)

-- ---- all that walkers do

pub walkers : tour.Keeps AnyPath AgreesBy
walkers = record {
  nothing = λ k d n given h. h;
  arrived = λ k attempt at passed w d n given h. same_agree k (walks.arrived attempt at.mount passed k) d (record { tokens = refl; queue = refl; attached = refl; autofs = refl }) given h;
  joined = λ k attempt token passed w d n given h. joined_agrees k attempt token passed d given h;
  notified = λ k attempt trigger attach passed w is d n given h. notified_agrees k attempt trigger attach passed is w.stops d n h;
  expiring = λ k walker fs moment immediate trigger attach x d n given h.
      let pick = picked (expires.expiry_of k fs moment immediate) trigger x.next in
      expiring_agrees k walker trigger attach (ap (attach_of k) pick.0 ∙ x.current) pick.1 d n h;
  made_catatonic = λ k fs d n given h. closed_agree k d.jobs fs n.rise h;
  collected = λ k kind wait status moment shown made g later. after_freed kind k wait moment shown made later;
}
