-- What walkers do is lawful after a trace that fits the rows, and leaves one that does.
use Rattle.std.proofs.Common.{◌≡◌, ℕ, ◌+◌, ◌≤◌, true, List, [], ◌∷◌, ◌++◌, Option, Some, None, refl, ap, arith, ◌∙◌}
use Rattle.std.specs.Prelude.{is_some}
use Rattle.std.specs.List.{count_by, All}
use Rattle.am_names.specs.declared.limits.Limits.{Limits}
use Rattle.am_names.specs.declared.trigger.Trigger.{Trigger}
use Rattle.am_names.specs.{Position, OpenToken, TokenKind, Status, WaitRow}
use Rattle.am_names.specs.declared.row.TokenKind.TheVariants.{Missing, Expire}
use Rattle.am_state.specs.{Obs}
use Rattle.am_state.specs.declared.obs.Obs.TheVariants as seen
use Rattle.am_wait.specs.{WaitRows, token_of, wait_of, opened, joined_on, collected}
use Rattle.am_walk.specs.{IsIdle}
use Rattle.am_kernel.specs.{Attempt, KernelState, packet_for, catatonic_observations, made_catatonic, passes}
use Rattle.am_kernel.specs.Walks as walks
use Rattle.am_kernel.specs.Expires as expires
use Rattle.am_daemon.specs.{JobPlan}
use Rattle.am_laws.specs.{is_queued}
use Rattle.am_machine.specs.{limits_in, Rows, rows_of, asked_in, FitsTrace}
use Rattle.am_machine.proofs.Traces.Enter.{enter_fits}
use Rattle.am_machine.proofs.Traces.Join.{join_fits}
use Rattle.am_machine.proofs.Traces.Notify.{notify_fits}
use Rattle.am_machine.proofs.Traces.Lawful.{wait_lawful, notice_lawful}
use Rattle.am_machine.proofs.Traces.Adds.{Adds, adds_both, adds_passes, at_most_one, once_passed, adds_closing, once_closing, adds_nothing}
use Rattle.am_names.proofs.Basics.{value_where_some}
use Rattle.am_wait.proofs.AgreeLemmas.{collected_sound}
use Rattle.am_kernel.specs.Resumes as resumes
use Rattle.am_machine.proofs.Tour.Walks as tour
use Rattle.am_machine.proofs.Tour.Walks.{IsIdleWalker, IsGiven, AnyPath, noticed}

-- this may be seen next; one packet at most is queued, and the limits stay
pub record Moves (k : KernelState) (shown : List Obs) (made : KernelState) : Type 0 where
  pub adds : (jobs : List JobPlan) (trace : List Obs) → FitsTrace (rows_of k jobs) trace → Adds trace shown (rows_of made jobs)
  pub once : count_by is_queued shown ≤ 1
  pub limits : limits_in made ≡ limits_in k

-- ---- it arrives

arrives : (k : KernelState) (attempt : Attempt) (at : Position) (passed : List Trigger) → IsIdleWalker k attempt.walker → All (IsIdle k.waits.tokens) passed → Moves k (passes attempt.walker passed ++ seen.Entered attempt.walker at.mount ∷ []) (walks.arrived attempt at.mount passed k)
arrives k attempt at passed free idle = record {
  adds = λ jobs trace h.
      let first = adds_passes trace (rows_of k jobs) attempt.walker passed idle h in
      adds_both trace (passes attempt.walker passed) (seen.Entered attempt.walker at.mount ∷ []) (rows_of k jobs) (rows_of (walks.arrived attempt at.mount passed k) jobs) first
      (record { fits = enter_fits (rows_of k jobs) (trace ++ passes attempt.walker passed) attempt.walker at.mount free.uses first.fits; lawful = (tt, tt); start = refl });
  once = once_passed attempt.walker passed (seen.Entered attempt.walker at.mount ∷ []) (at_most_one (seen.Entered attempt.walker at.mount ∷ []) 0 refl (omega arith));
  limits = refl;
}

-- ---- it joins

abbrev limits_with : KernelState → WaitRows → Limits
limits_with k w = record { mounts = k.table.limit; waiters = w.most_waits; tokens = w.most_tokens; negative = k.negative }

joins_row : (k : KernelState) (attempt : Attempt) (token : ℕ) (row : OpenToken) (passed : List Trigger) → token_of k.waits.tokens token ≡ Some row → IsIdleWalker k attempt.walker → All (IsIdle k.waits.tokens) passed →
    Moves k (passes attempt.walker passed ++ seen.Waits attempt.walker token ∷ []) (walks.with_joined attempt token passed k)
joins_row k attempt token row passed is free idle = record {
  adds = λ jobs trace h.
      let first = adds_passes trace (rows_of k jobs) attempt.walker passed idle h in
      adds_both trace (passes attempt.walker passed) (seen.Waits attempt.walker token ∷ []) (rows_of k jobs) (rows_of (walks.with_joined attempt token passed k) jobs) first
      (record {
        fits = join_fits (rows_of k jobs) (trace ++ passes attempt.walker passed) attempt.walker token row is free.waits first.fits;
        lawful = wait_lawful k.waits.tokens (trace ++ passes attempt.walker passed) attempt.walker token row first.fits.opens is;
        start = refl;
      });
  once = once_passed attempt.walker passed (seen.Waits attempt.walker token ∷ []) (at_most_one (seen.Waits attempt.walker token ∷ []) 0 refl (omega arith));
  limits = ap (λ (o : Option OpenToken). limits_with k (joined_on o token attempt.walker k.waits)) is;
}

joins : (k : KernelState) (attempt : Attempt) (token : ℕ) (passed : List Trigger) → is_some (token_of k.waits.tokens token) ≡ true → IsIdleWalker k attempt.walker → All (IsIdle k.waits.tokens) passed →
    Moves k (passes attempt.walker passed ++ seen.Waits attempt.walker token ∷ []) (walks.with_joined attempt token passed k)
joins k attempt token passed there free idle =
    let row = value_where_some (token_of k.waits.tokens token) there in
    joins_row k attempt token row.0 passed row.1 free idle

-- ---- the daemon is notified

pub packet_asks : (kind : TokenKind) (token walker fs : ℕ) (name : Option (List ℕ)) → asked_in (packet_for kind token walker (record { fs = fs; name = name })) ≡ record { trigger = record { fs = fs; name = name }; kind = kind }
packet_asks Missing token walker fs None = refl
packet_asks Missing token walker fs (Some name) = refl
packet_asks Expire token walker fs None = refl
packet_asks Expire token walker fs (Some name) = refl

abbrev notified_rows : KernelState → List JobPlan → ℕ → ℕ → Trigger → TokenKind → Rows
notified_rows k jobs walker attach trigger kind = record (rows_of k jobs) {
  waits = opened trigger kind walker k.waits;
  queue = k.queue ++ (record { token = k.waits.last_token + 1; attach = attach; packet = packet_for kind (k.waits.last_token + 1) walker trigger }) ∷ [];
}

notice_adds : (k : KernelState) (jobs : List JobPlan) (trace : List Obs) (walker attach : ℕ) (trigger : Trigger) (kind : TokenKind) → IsIdleWalker k walker → FitsTrace (rows_of k jobs) trace → Adds trace (noticed k walker attach trigger kind) (notified_rows k jobs walker attach trigger kind)
notice_adds k jobs trace walker attach trigger kind free h =
    let token = k.waits.last_token + 1 in
    let packet = packet_for kind token walker trigger in
    record {
      fits = notify_fits (rows_of k jobs) trace walker attach trigger kind packet (packet_asks kind token walker trigger.fs trigger.name) refl free.waits h;
      lawful = notice_lawful trace token attach walker packet (h.known token (omega arith));
      start = refl;
    }

notified : (k : KernelState) (attempt : Attempt) (trigger : Trigger) (attach : ℕ) (passed : List Trigger) → IsIdleWalker k attempt.walker → All (IsIdle k.waits.tokens) passed → Moves k (passes attempt.walker passed ++ noticed k attempt.walker attach trigger Missing) (walks.with_notified attempt trigger attach passed k)
notified k attempt trigger attach passed free idle = record {
  adds = λ jobs trace h.
      let first = adds_passes trace (rows_of k jobs) attempt.walker passed idle h in
      adds_both trace (passes attempt.walker passed) (noticed k attempt.walker attach trigger Missing) (rows_of k jobs) (notified_rows k jobs attempt.walker attach trigger Missing) first
      (notice_adds k jobs (trace ++ passes attempt.walker passed) attempt.walker attach trigger Missing free first.fits);
  once = once_passed attempt.walker passed (noticed k attempt.walker attach trigger Missing) (at_most_one (noticed k attempt.walker attach trigger Missing) 1 refl (omega arith));
  limits = refl;
}

expiring : (k : KernelState) (walker : ℕ) (trigger : Trigger) (attach : ℕ) → IsIdleWalker k walker → Moves k (noticed k walker attach trigger Expire) (expires.with_expiring walker trigger attach k)
expiring k walker trigger attach free =
    record { adds = λ jobs trace h. notice_adds k jobs trace walker attach trigger Expire free h; once = at_most_one (noticed k walker attach trigger Expire) 1 refl (omega arith); limits = refl }

pub closes : (k : KernelState) (fs : ℕ) → Moves k (catatonic_observations fs k) (made_catatonic fs k)
closes k fs = record { adds = λ jobs trace h. adds_closing k jobs trace fs h; once = once_closing k fs; limits = refl }

-- ---- a wait is collected

-- the rows still fit the trace
pub record Frees (k base : KernelState) : Type 0 where
  pub fits : (jobs : List JobPlan) (trace : List Obs) → FitsTrace (rows_of k jobs) trace → FitsTrace (rows_of base jobs) trace
  pub limits : limits_in base ≡ limits_in k

collected_fits : (r : Rows) (trace : List Obs) (wait : WaitRow) (status : Status) → wait_of r.waits.waits wait.walker ≡ Some wait → wait.status ≡ Some status → FitsTrace r trace → FitsTrace (record r { waits = collected wait.walker r.waits }) trace
collected_fits r trace wait status is given h = record {
  sound = collected_sound r.waits wait.walker wait status h.sound is given;
  single = h.single;
  known = h.known;
  opens = h.opens;
  waiters = h.waiters;
  inside = h.inside;
  queued = h.queued;
  delivered = h.delivered;
}

pub frees : (kind : TokenKind) (k : KernelState) (wait : WaitRow) (status : Status) (moment : ℕ) → IsGiven k wait status → Frees k (resumes.wait_collected_from kind wait moment k)
frees Missing k wait status moment g = record { fits = λ jobs trace h. collected_fits (rows_of k jobs) trace wait status g.waits g.given h; limits = refl }
frees Expire k wait status moment g = record { fits = λ jobs trace h. collected_fits (rows_of k jobs) trace wait status g.waits g.given h; limits = refl }

-- ---- all that walkers do

pub moves : tour.Keeps AnyPath Moves
moves = record {
  nothing = λ k. record { adds = λ jobs trace h. adds_nothing trace (rows_of k jobs) h; once = at_most_one [] 0 refl (omega arith); limits = refl };
  arrived = λ k attempt at passed w. arrives k attempt at passed w.free w.passes;
  joined = λ k attempt token passed w. joins k attempt token passed w.stops w.free w.passes;
  notified = λ k attempt trigger attach passed w is. notified k attempt trigger attach passed w.free w.passes;
  expiring = λ k walker fs moment immediate trigger attach x. expiring k walker trigger attach x.free;
  made_catatonic = closes;
  collected = λ k kind wait status moment shown made g later.
      let f = frees kind k wait status moment g in
      record { adds = λ jobs trace h. later.adds jobs trace (f.fits jobs trace h); once = later.once; limits = later.limits ∙ f.limits };
}
