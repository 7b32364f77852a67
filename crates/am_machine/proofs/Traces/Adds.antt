-- What may be seen next, with the rows that it leaves.
use Rattle.std.proofs.Common.{◌≡◌, ℕ, ◌≤◌, Bool, false, List, [], ◌∷◌, ◌++◌, refl, sym, ap, ◌∙◌, subst, append_assoc, arith}
use Rattle.std.specs.Prelude.{◌==◌, ◌&&◌}
use Rattle.std.specs.List.{count_by, list_any, All}
use Rattle.std.proofs.lemmas.List.{append-nil}
use Rattle.am_names.specs.declared.fail_no.FailNo.TheVariants.{ENOENT}
use Rattle.am_names.specs.declared.trigger.Trigger.{Trigger}
use Rattle.am_names.specs.{Status}
use Rattle.am_names.specs.declared.trigger.Status.TheVariants.{Fail}
use Rattle.am_state.specs.{Obs}
use Rattle.am_state.specs.declared.obs.Obs.TheVariants as seen
use Rattle.am_wait.specs.{tokens_of, waiters_of}
use Rattle.am_walk.specs.{IsIdle}
use Rattle.am_kernel.specs.{KernelState, catatonic_observations, made_catatonic, passes, releases}
use Rattle.am_daemon.specs.{JobPlan}
use Rattle.am_laws.specs.{is_queued, enters, leaves, AreLawful, begins_with_released}
use Rattle.am_laws.proofs.Append.{front_more}
use Rattle.am_machine.specs.{Rows, rows_of, FitsTrace}
use Rattle.am_machine.proofs.Lists.Counts.{count_append}
use Rattle.am_machine.proofs.Traces.Unchanged.{IsQuiet, IsStill, quiet_fits}
use Rattle.am_machine.proofs.Traces.Releases.{Waiter, row_of}
use Rattle.am_machine.proofs.Traces.Closing.{waiters_over, failures_row, over_has, over_new, its_tokens, tokens_differ}
use Rattle.am_machine.proofs.Traces.Catatonic.{quits, Quits, catatonic_fits, catatonic_lawful}
use Rattle.am_machine.proofs.Traces.Lawful.{passes_lawful}

-- these observations are lawful after the trace, and the rows fit both together
pub record Adds (trace shown : List Obs) (r : Rows) : Type 0 where
  pub fits : FitsTrace r (trace ++ shown)
  pub lawful : AreLawful trace shown
  pub start : begins_with_released shown ≡ false

pub adds_nothing : (trace : List Obs) (r : Rows) → FitsTrace r trace → Adds trace [] r
adds_nothing trace r h = record { fits = subst (FitsTrace r) (sym (append-nil trace)) h; lawful = tt; start = refl }

start_more : (first second : List Obs) → begins_with_released first ≡ false → begins_with_released second ≡ false → begins_with_released (first ++ second) ≡ false
start_more [] second h g = g
start_more (o ∷ first) second h g = h

-- one after the other
pub adds_both : (trace first second : List Obs) (r t : Rows) → Adds trace first r → Adds (trace ++ first) second t → Adds trace (first ++ second) t
adds_both trace first second r t h g = record {
  fits = subst (FitsTrace t) (append_assoc trace first second) g.fits;
  lawful = front_more trace first second g.start h.lawful g.lawful;
  start = start_more first second h.start g.start;
}

pub at_most_one : (shown : List Obs) (n : ℕ) → count_by is_queued shown ≡ n → n ≤ 1 → count_by is_queued shown ≤ 1
at_most_one shown n e h = subst (λ (m : ℕ). m ≤ 1) (sym e) h

-- ---- passes

passes_quiet : (walker : ℕ) (triggers : List Trigger) → IsQuiet (passes walker triggers)
passes_quiet walker [] = refl
passes_quiet walker (trigger ∷ triggers) = passes_quiet walker triggers

passes_enter : (walker : ℕ) (triggers : List Trigger) (mount : ℕ) → count_by (enters mount) (passes walker triggers) ≡ 0
passes_enter walker [] mount = refl
passes_enter walker (trigger ∷ triggers) mount = passes_enter walker triggers mount

passes_leave : (walker : ℕ) (triggers : List Trigger) (mount : ℕ) → count_by (leaves mount) (passes walker triggers) ≡ 0
passes_leave walker [] mount = refl
passes_leave walker (trigger ∷ triggers) mount = passes_leave walker triggers mount

passes_start : (walker : ℕ) (triggers : List Trigger) → begins_with_released (passes walker triggers) ≡ false
passes_start walker [] = refl
passes_start walker (trigger ∷ triggers) = refl

pub adds_passes : (trace : List Obs) (r : Rows) (walker : ℕ) (triggers : List Trigger) → All (IsIdle r.waits.tokens) triggers → FitsTrace r trace → Adds trace (passes walker triggers) r
adds_passes trace r walker triggers idle h = record {
  fits = quiet_fits r trace (passes walker triggers) (passes_quiet walker triggers) (record { enters = passes_enter walker triggers; leaves = passes_leave walker triggers }) h;
  lawful = passes_lawful r.waits.tokens trace walker triggers h.opens idle;
  start = passes_start walker triggers;
}

none_passed : (walker : ℕ) (triggers : List Trigger) → count_by is_queued (passes walker triggers) ≡ 0
none_passed walker [] = refl
none_passed walker (trigger ∷ triggers) = none_passed walker triggers

-- passes queue no packet
pub once_passed : (walker : ℕ) (triggers : List Trigger) (more : List Obs) → count_by is_queued more ≤ 1 → count_by is_queued (passes walker triggers ++ more) ≤ 1
once_passed walker triggers more h =
    let sum = count_append is_queued (passes walker triggers) more in
    let none = none_passed walker triggers in
    omega (arith, sum, none, h)

-- ---- a file system closes

abbrev its_waiters : KernelState → ℕ → List Waiter
its_waiters k fs = waiters_over k.waits.tokens (tokens_of k.waits.tokens fs)

closing_row : (k : KernelState) (fs : ℕ) → catatonic_observations fs k ≡ quits fs (its_waiters k fs)
closing_row k fs = ap (λ (r : List Obs). seen.Catatonic fs ∷ r) (failures_row k (tokens_of k.waits.tokens fs))

its_quits : (k : KernelState) (jobs : List JobPlan) (trace : List Obs) (fs : ℕ) → FitsTrace (rows_of k jobs) trace → Quits k.waits.tokens fs (its_waiters k fs)
its_quits k jobs trace fs h =
    let tokens = k.waits.tokens in
    record {
      released = λ w token. over_has tokens w token (tokens_of tokens fs) ∙ ap (λ (b : Bool). b && list_any (λ other. other == w) (waiters_of tokens token)) (its_tokens fs token 0 tokens h.sound.tokens);
      new = over_new tokens trace [] (tokens_of tokens fs) (λ w token is. refl) (tokens_differ fs 0 tokens h.sound.tokens) h.waiters;
    }

pub adds_closing : (k : KernelState) (jobs : List JobPlan) (trace : List Obs) (fs : ℕ) → FitsTrace (rows_of k jobs) trace → Adds trace (catatonic_observations fs k) (rows_of (made_catatonic fs k) jobs)
adds_closing k jobs trace fs h =
    let ws = its_waiters k fs in
    let quit = its_quits k jobs trace fs h in
    let adds : Adds trace (quits fs ws) (rows_of (made_catatonic fs k) jobs) = record {
      fits = catatonic_fits (rows_of k jobs) trace fs ws quit h;
      lawful = catatonic_lawful (rows_of k jobs) trace fs ws quit h;
      start = refl;
    } in
    subst (λ (shown : List Obs). Adds trace shown (rows_of (made_catatonic fs k) jobs)) (sym (closing_row k fs)) adds

row_unqueued : (status : Status) (ws : List Waiter) → count_by is_queued (row_of status ws) ≡ 0
row_unqueued status [] = refl
row_unqueued status (w ∷ ws) = row_unqueued status ws

pub once_closing : (k : KernelState) (fs : ℕ) → count_by is_queued (catatonic_observations fs k) ≤ 1
once_closing k fs =
    subst (λ (shown : List Obs). count_by is_queued shown ≤ 1) (sym (closing_row k fs)) (at_most_one (quits fs (its_waiters k fs)) 0 (row_unqueued (Fail ENOENT) (its_waiters k fs)) (omega arith))

none_released : (token : ℕ) (status : Status) (walkers : List ℕ) → count_by is_queued (releases token status walkers) ≡ 0
none_released token status [] = refl
none_released token status (walker ∷ walkers) = none_released token status walkers

pub once_answered : (token : ℕ) (status : Status) (walkers : List ℕ) → count_by is_queued (seen.Answered token status ∷ releases token status walkers) ≤ 1
once_answered token status walkers = at_most_one (seen.Answered token status ∷ releases token status walkers) 0 (none_released token status walkers) (omega arith)

-- ---- what speaks of no token

-- it may be seen after any trace
pub record IsPlain (shown : List Obs) : Type 0 where
  pub quiet : IsQuiet shown
  pub still : IsStill shown
  pub lawful : (trace : List Obs) → AreLawful trace shown
  pub start : begins_with_released shown ≡ false
  pub none : count_by is_queued shown ≡ 0

pub adds_plain : (trace shown : List Obs) (r : Rows) → IsPlain shown → FitsTrace r trace → Adds trace shown r
adds_plain trace shown r p h = record { fits = quiet_fits r trace shown p.quiet p.still h; lawful = p.lawful trace; start = p.start }
