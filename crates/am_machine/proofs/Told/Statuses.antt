-- Each wait has the status with which its walker was seen to be released.
use Rattle.std.proofs.Common.{◌≡◌, ◌∙◌, ℕ, ◌+◌, ◌==◌, Bool, true, false, cond, List, [], ◌∷◌, ◌++◌, map, Option, Some, None, refl, sym, ap, subst, arith}
use Rattle.std.specs.Prelude.{◌&&◌, ◌||◌, is_none, if◌then◌else◌}
use Rattle.std.specs.Option.{option_map}
use Rattle.std.specs.List.{list_any}
use Rattle.std.proofs.lemmas.List.{append-nil}
use Rattle.am_names.specs.declared.fail_no.FailNo.TheVariants.{ENOENT}
use Rattle.am_names.specs.{Status, OpenToken, WaitRow, TokenKind}
use Rattle.am_names.specs.declared.trigger.Trigger.{Trigger}
use Rattle.am_names.specs.declared.trigger.Status.TheVariants.{Fail}
use Rattle.am_names.specs.declared.row.TokenKind.TheVariants.{Missing, Expire}
use Rattle.am_names.proofs.Basics.{equal_to_itself, equal_by_test, differ_the_other_way}
use Rattle.am_state.specs.{Record, Obs}
use Rattle.am_state.specs.declared.obs.Obs.TheVariants as seen
use Rattle.am_wait.specs.{WaitRows, token_of, wait_of, waiters_of, tokens_of, waiting_on, joined_on, with_wait, without_wait, opened, answered, released_row, fs_released, failed_row}
use Rattle.am_wait.proofs.FindLemmas.{find_map, wait_put, wait_taken}
use Rattle.am_kernel.specs.{KernelState, passes, made_catatonic, wait_collected_from, answering, catatonic_observations}
use Rattle.am_daemon.specs.{JobPlan, plan_of_packet}
use Rattle.am_job.specs.{is_reply}
use Rattle.am_laws.specs as laws
use Rattle.am_machine.specs.{Event, Setup, initial_state_of, after, outcome_of, names, has, FitsTrace, rows_of, rows_in, AgreeOnStatuses, told_status}
use Rattle.am_machine.specs.State.{State}
use Rattle.am_machine.proofs.Traces.Counts.{any_none_of, releases_names, or_neither_and}
use Rattle.am_machine.proofs.Traces.Releases.{Waiter, row_of, is_waiter, on_token, releases_row, on_token_has}
use Rattle.am_machine.proofs.Traces.Closing.{is_its, waiters_over, failures_row, over_has, its_tokens}
use Rattle.am_machine.proofs.Traces.Walks.{frees}
use Rattle.am_machine.proofs.Tour.Walks as tour
use Rattle.am_machine.proofs.Tour.Walks.{AnyPath, IsGiven}
use Rattle.am_machine.proofs.Tour.Events as tours
use Rattle.am_machine.proofs.Tour.Events.{AnyJob, any_event}

-- ---- what a trace tells of a status

abbrev or_status : Option Status → Option Status → Option Status
or_status None other = other
or_status (Some status) other = Some status

or_if : (b : Bool) (status : Status) (first second : Option Status) → (if b then Some status else or_status first second) ≡ or_status (if b then Some status else first) second
or_if true status first second = refl
or_if false status first second = refl

status_append : (walker token : ℕ) (xs ys : List Obs) → told_status walker token (xs ++ ys) ≡ or_status (told_status walker token xs) (told_status walker token ys)
status_append walker token [] ys = refl
status_append walker token (seen.Released other from status ∷ xs) ys =
    ap (λ (o : Option Status). if other == walker && from == token then Some status else o) (status_append walker token xs ys)
    ∙ or_if (other == walker && from == token) status (told_status walker token xs) (told_status walker token ys)
status_append walker token (_ ∷ xs) ys = status_append walker token xs ys

or_nothing : (o : Option Status) → or_status o None ≡ o
or_nothing None = refl
or_nothing (Some status) = refl

-- what releases nobody leaves it
status_same : (walker token : ℕ) (trace more : List Obs) → told_status walker token more ≡ None → told_status walker token (trace ++ more) ≡ told_status walker token trace
status_same walker token trace more none = status_append walker token trace more ∙ ap (or_status (told_status walker token trace)) none ∙ or_nothing (told_status walker token trace)

status_new : (walker token : ℕ) (trace more : List Obs) → told_status walker token trace ≡ None → told_status walker token (trace ++ more) ≡ told_status walker token more
status_new walker token trace more none = status_append walker token trace more ∙ ap (λ (o : Option Status). or_status o (told_status walker token more)) none

unreleased_by_cases : (walker token : ℕ) (o : Obs) (later : List Obs) (b : Bool) → laws.releases walker token o ≡ b → (b || list_any (laws.releases walker token) later) ≡ false → (list_any (laws.releases walker token) later ≡ false → told_status walker token later ≡ None) → told_status walker token (o ∷ later) ≡ None
unreleased_by_cases walker token o later true is h rest = absurd cc
unreleased_by_cases walker token (seen.Released other from status) later false is h rest = rw is (rest h)
unreleased_by_cases walker token _ later false is h rest = rest h

unreleased : (walker token : ℕ) (trace : List Obs) → list_any (laws.releases walker token) trace ≡ false → told_status walker token trace ≡ None
unreleased walker token [] h = refl
unreleased walker token (o ∷ later) h = unreleased_by_cases walker token o later (laws.releases walker token o) refl h (unreleased walker token later)

-- a row of releases
status_of_row : (walker token : ℕ) (status : Status) (ws : List Waiter) → told_status walker token (row_of status ws) ≡ (if list_any (is_waiter walker token) ws then Some status else None)
status_of_row walker token status [] = refl
status_of_row walker token status (w ∷ ws) = by (is_waiter walker token w) (status_of_row walker token status ws)
  where
    by : (b : Bool) → told_status walker token (row_of status ws) ≡ (if list_any (is_waiter walker token) ws then Some status else None) → (if b then Some status else told_status walker token (row_of status ws)) ≡ (if b || list_any (is_waiter walker token) ws then Some status else None)
    by true later = refl
    by false later = later

status_of_passes : (walker token who : ℕ) (passed : List Trigger) (later : List Obs) → told_status walker token (passes who passed ++ later) ≡ told_status walker token later
status_of_passes walker token who [] later = refl
status_of_passes walker token who (g ∷ passed) later = status_of_passes walker token who passed later

-- ---- waits that stay

abbrev ToldBy : KernelState → List Obs → KernelState → Type 0
ToldBy k shown made = (jobs : List JobPlan) (trace : List Obs) → FitsTrace (rows_of k jobs) trace → AgreeOnStatuses k.waits trace → AgreeOnStatuses made.waits (trace ++ shown)

-- nobody is released
quiet : (w : WaitRows) (trace shown : List Obs) → ((walker token : ℕ) → told_status walker token shown ≡ None) → AgreeOnStatuses w trace → AgreeOnStatuses w (trace ++ shown)
quiet w trace shown none h = λ walker row e. h walker row e ∙ sym (status_same walker row.token trace shown (none walker row.token))

-- one more waits
put_by_cases : (new row : WaitRow) (waits : List WaitRow) (walker : ℕ) (trace : List Obs) (b : Bool) → (new.walker == walker) ≡ b → new.status ≡ told_status new.walker new.token trace → ((old : WaitRow) → wait_of waits walker ≡ Some old → old.status ≡ told_status walker old.token trace) → cond b (Some new) (wait_of waits walker) ≡ Some row → row.status ≡ told_status walker row.token trace
put_by_cases new row waits walker trace true is here old e =
    let same : new ≡ row = cc in
    subst (λ (r : WaitRow). r.status ≡ told_status walker r.token trace) same (subst (λ (n : ℕ). new.status ≡ told_status n new.token trace) (equal_by_test new.walker walker is) here)
put_by_cases new row waits walker trace false is here old e = old row e

with_one_more : (w : WaitRows) (new : WaitRow) (made : WaitRows) (trace : List Obs) → made.waits ≡ with_wait new w.waits → new.status ≡ told_status new.walker new.token trace → AgreeOnStatuses w trace → AgreeOnStatuses made trace
with_one_more w new made trace waits here h = λ walker row e.
    put_by_cases new row w.waits walker trace (new.walker == walker) refl here (λ old is. h walker old is)
    (sym (wait_put new w.waits walker (new.walker == walker) refl) ∙ ap (λ (rows : List WaitRow). wait_of rows walker) (sym waits) ∙ e)

joins_row : (k : KernelState) (token walker : ℕ) (row : OpenToken) (shown : List Obs) (jobs : List JobPlan) (trace : List Obs) → token_of k.waits.tokens token ≡ Some row → ((w t : ℕ) → told_status w t shown ≡ None) → FitsTrace (rows_of k jobs) trace → AgreeOnStatuses k.waits trace →
    AgreeOnStatuses (joined_on (Some row) token walker k.waits) (trace ++ shown)
joins_row k token walker row shown jobs trace is none fits h =
    with_one_more k.waits (waiting_on token row.trigger row.kind walker) (joined_on (Some row) token walker k.waits) (trace ++ shown) refl
    (sym (status_same walker token trace shown (none walker token) ∙ unreleased walker token trace ((fits.waiters token row is).unreleased walker)))
    (quiet k.waits trace shown none h)

joins : (k : KernelState) (token walker : ℕ) (found : Option OpenToken) (shown : List Obs) (jobs : List JobPlan) (trace : List Obs) → token_of k.waits.tokens token ≡ found → ((w t : ℕ) → told_status w t shown ≡ None) → FitsTrace (rows_of k jobs) trace → AgreeOnStatuses k.waits trace →
    AgreeOnStatuses (joined_on found token walker k.waits) (trace ++ shown)
joins k token walker None shown jobs trace is none fits h = quiet k.waits trace shown none h
joins k token walker (Some row) shown jobs trace is none fits h = joins_row k token walker row shown jobs trace is none fits h

opens : (k : KernelState) (trigger : Trigger) (kind : TokenKind) (walker : ℕ) (shown : List Obs) (jobs : List JobPlan) (trace : List Obs) → ((w t : ℕ) → told_status w t shown ≡ None) → FitsTrace (rows_of k jobs) trace → AgreeOnStatuses k.waits trace →
    AgreeOnStatuses (opened trigger kind walker k.waits) (trace ++ shown)
opens k trigger kind walker shown jobs trace none fits h =
    let token = k.waits.last_token + 1 in
    let fresh : list_any (laws.releases walker token) trace ≡ false = any_none_of (laws.releases walker token) (names token) trace (releases_names walker token) (fits.known token (omega arith)) in
    with_one_more k.waits (waiting_on token trigger kind walker) (opened trigger kind walker k.waits) (trace ++ shown) refl
    (sym (status_same walker token trace shown (none walker token) ∙ unreleased walker token trace fresh))
    (quiet k.waits trace shown none h)

-- a wait is collected
taken_by_cases : (waits : List WaitRow) (walker : ℕ) (row : WaitRow) (b : Bool) → cond b None (wait_of waits walker) ≡ Some row → wait_of waits walker ≡ Some row
taken_by_cases waits walker row true e = absurd cc
taken_by_cases waits walker row false e = e

less : (w made : WaitRows) (n : ℕ) (trace : List Obs) → made.waits ≡ without_wait n w.waits → AgreeOnStatuses w trace → AgreeOnStatuses made trace
less w made n trace waits h = λ walker row e.
    h walker row (taken_by_cases w.waits walker row (n == walker) (sym (wait_taken n w.waits walker (n == walker) refl) ∙ ap (λ (rows : List WaitRow). wait_of rows walker) (sym waits) ∙ e))

collects : (kind : TokenKind) (k : KernelState) (wait : WaitRow) (moment : ℕ) (trace : List Obs) → AgreeOnStatuses k.waits trace → AgreeOnStatuses (wait_collected_from kind wait moment k).waits trace
collects Missing k wait moment trace h = less k.waits (wait_collected_from Missing wait moment k).waits wait.walker trace refl h
collects Expire k wait moment trace h = less k.waits (wait_collected_from Expire wait moment k).waits wait.walker trace refl h

-- ---- waits that are released

mapped_wait : (f : WaitRow → WaitRow) (o : Option WaitRow) (row : WaitRow) → option_map f o ≡ Some row → (old : WaitRow) × (o ≡ Some old) × (f old ≡ row)
mapped_wait f None row e = absurd cc
mapped_wait f (Some old) row e = (old, refl, let same : f old ≡ row = cc in same)

released_walker : (token : ℕ) (status : Status) (row : WaitRow) → (released_row token status row).walker ≡ row.walker
released_walker token status row = by (row.token == token)
  where
    by : (b : Bool) → (if b then record row { status = Some status } else row).walker ≡ row.walker
    by true = refl
    by false = refl

released_found : (token walker : ℕ) (status : Status) (waits : List WaitRow) → wait_of (map (released_row token status) waits) walker ≡ option_map (released_row token status) (wait_of waits walker)
released_found token walker status waits = find_map (λ (r : WaitRow). r.walker == walker) (released_row token status) (λ r. ap (λ (n : ℕ). n == walker) (released_walker token status r)) waits

-- who waits on an known token wasn't released from it
still_waits : (jobs : List JobPlan) (k : KernelState) (trace : List Obs) (walker : ℕ) (row : WaitRow) (its : OpenToken) → FitsTrace (rows_of k jobs) trace → AgreeOnStatuses k.waits trace → wait_of k.waits.waits walker ≡ Some row → token_of k.waits.tokens row.token ≡ Some its → (told_status walker row.token trace ≡ None) × (row.status ≡ None)
still_waits jobs k trace walker row its fits h is known =
    let none = unreleased walker row.token trace ((fits.waiters row.token its known).unreleased walker) in
    (none, h walker row is ∙ none)

waits_there : (k : KernelState) (jobs : List JobPlan) (trace : List Obs) (walker : ℕ) (row : WaitRow) → FitsTrace (rows_of k jobs) trace → wait_of k.waits.waits walker ≡ Some row → row.status ≡ None → has walker (waiters_of k.waits.tokens row.token) ≡ true
waits_there k jobs trace walker row fits is none =
    fits.sound.agree row.token walker ∙ (rw (is, none, equal_to_itself row.token) refl)

-- one token is acknowledged
released_by_cases : (k : KernelState) (token : ℕ) (status : Status) (its : OpenToken) (jobs : List JobPlan) (trace : List Obs) (walker : ℕ) (row : WaitRow) (b : Bool) → token_of k.waits.tokens token ≡ Some its → FitsTrace (rows_of k jobs) trace → AgreeOnStatuses k.waits trace → wait_of k.waits.waits walker ≡ Some row → (row.token == token) ≡ b →
    (if b then record row { status = Some status } else row).status ≡ told_status walker (if b then record row { status = Some status } else row).token (trace ++ seen.Answered token status ∷ row_of status (on_token token (waiters_of k.waits.tokens token)))
released_by_cases k token status its jobs trace walker row true known fits h is same =
    let number : row.token ≡ token = equal_by_test row.token token same in
    let its_open : token_of k.waits.tokens row.token ≡ Some its = ap (token_of k.waits.tokens) number ∙ known in
    let was = still_waits jobs k trace walker row its fits h is its_open in
    let shown = seen.Answered token status ∷ row_of status (on_token token (waiters_of k.waits.tokens token)) in
    let there : list_any (is_waiter walker row.token) (on_token token (waiters_of k.waits.tokens token)) ≡ true =
    subst (λ (n : ℕ). list_any (is_waiter walker n) (on_token token (waiters_of k.waits.tokens token)) ≡ true) (sym number)
    (on_token_has token walker (waiters_of k.waits.tokens token) ∙ subst (λ (n : ℕ). has walker (waiters_of k.waits.tokens n) ≡ true) number (waits_there k jobs trace walker row fits is was.1)) in
    sym (status_new walker row.token trace shown was.0
    ∙ status_of_row walker row.token status (on_token token (waiters_of k.waits.tokens token))
    ∙ ap (λ (b : Bool). if b then Some status else None) there)
released_by_cases k token status its jobs trace walker row false known fits h is other =
    let shown = seen.Answered token status ∷ row_of status (on_token token (waiters_of k.waits.tokens token)) in
    let none : list_any (is_waiter walker row.token) (on_token token (waiters_of k.waits.tokens token)) ≡ false = not_on walker row.token token (waiters_of k.waits.tokens token) (sym_test row.token token other) in
    h walker row is ∙ sym (status_same walker row.token trace shown (status_of_row walker row.token status (on_token token (waiters_of k.waits.tokens token)) ∙ ap (λ (b : Bool). if b then Some status else None) none))
  where
    sym_test : (a b : ℕ) → (a == b) ≡ false → (b == a) ≡ false
    sym_test a b e = differ_the_other_way a b e

    not_on : (walker n token : ℕ) (walkers : List ℕ) → (token == n) ≡ false → list_any (is_waiter walker n) (on_token token walkers) ≡ false
    not_on walker n token [] e = refl
    not_on walker n token (v ∷ walkers) e = or_neither_and (v == walker) (token == n) _ e (not_on walker n token walkers e)

answers : (k : KernelState) (token : ℕ) (status : Status) (its : OpenToken) (jobs : List JobPlan) (trace : List Obs) → token_of k.waits.tokens token ≡ Some its → FitsTrace (rows_of k jobs) trace → AgreeOnStatuses k.waits trace →
    AgreeOnStatuses (answered token status k.waits) (trace ++ answering token status k)
answers k token status its jobs trace known fits h = λ walker row e.
    let old = mapped_wait (released_row token status) (wait_of k.waits.waits walker) row (sym (released_found token walker status k.waits.waits) ∙ e) in
    let shown : answering token status k ≡ seen.Answered token status ∷ row_of status (on_token token (waiters_of k.waits.tokens token)) = ap (λ (more : List Obs). seen.Answered token status ∷ more) (releases_row token status (waiters_of k.waits.tokens token)) in
    subst (λ (more : List Obs). row.status ≡ told_status walker row.token (trace ++ more)) (sym shown)
    (subst (λ (r : WaitRow). r.status ≡ told_status walker r.token (trace ++ seen.Answered token status ∷ row_of status (on_token token (waiters_of k.waits.tokens token)))) old.2
    (released_by_cases k token status its jobs trace walker old.0 (old.0.token == token) known fits h old.1 refl))

-- all tokens of a file system
failed_by_cases : (k : KernelState) (fs : ℕ) (jobs : List JobPlan) (trace : List Obs) (walker : ℕ) (row : WaitRow) (status : Option Status) → FitsTrace (rows_of k jobs) trace → AgreeOnStatuses k.waits trace → wait_of k.waits.waits walker ≡ Some row → row.status ≡ status →
    (failed_row fs row).status ≡ or_status status (if list_any (is_waiter walker row.token) (waiters_over k.waits.tokens (tokens_of k.waits.tokens fs)) then Some (Fail ENOENT) else None)
failed_by_cases k fs jobs trace walker row (Some status) fits h is e = stays (row.trigger.fs == fs)
  where
    stays : (b : Bool) → (if b && is_none row.status then record row { status = Some (Fail ENOENT) } else row).status ≡ Some status
    stays true = rw e refl
    stays false = e
failed_by_cases k fs jobs trace walker row None fits h is e =
    let its = fits.sound.same walker row is e in
    let has_it = waits_there k jobs trace walker row fits is e in
    let over : list_any (is_waiter walker row.token) (waiters_over k.waits.tokens (tokens_of k.waits.tokens fs)) ≡ (row.trigger.fs == fs) =
    over_has k.waits.tokens walker row.token (tokens_of k.waits.tokens fs)
    ∙ ap (λ (b : Bool). has row.token (tokens_of k.waits.tokens fs) && b) has_it
    ∙ and_true (has row.token (tokens_of k.waits.tokens fs))
    ∙ its_tokens fs row.token 0 k.waits.tokens fits.sound.tokens
    ∙ ap (is_its fs) its.1
    ∙ ap (λ (t : Trigger). t.fs == fs) its.2 in
    fails (row.trigger.fs == fs) ∙ ap (λ (b : Bool). if b then Some (Fail ENOENT) else None) (sym over)
  where
    and_true : (b : Bool) → (b && true) ≡ b
    and_true true = refl
    and_true false = refl

    fails : (b : Bool) → (if b && is_none row.status then record row { status = Some (Fail ENOENT) } else row).status ≡ (if b then Some (Fail ENOENT) else None)
    fails true = rw e refl
    fails false = e

failed_token : (fs : ℕ) (row : WaitRow) → (failed_row fs row).token ≡ row.token
failed_token fs row = by (row.trigger.fs == fs && is_none row.status)
  where
    by : (b : Bool) → (if b then record row { status = Some (Fail ENOENT) } else row).token ≡ row.token
    by true = refl
    by false = refl

failed_walker : (fs : ℕ) (row : WaitRow) → (failed_row fs row).walker ≡ row.walker
failed_walker fs row = by (row.trigger.fs == fs && is_none row.status)
  where
    by : (b : Bool) → (if b then record row { status = Some (Fail ENOENT) } else row).walker ≡ row.walker
    by true = refl
    by false = refl

closes : (k : KernelState) (fs : ℕ) → ToldBy k (catatonic_observations fs k) (made_catatonic fs k)
closes k fs jobs trace fits h = λ walker row e.
    let found : wait_of (fs_released fs k.waits).waits walker ≡ option_map (failed_row fs) (wait_of k.waits.waits walker) = find_map (λ (r : WaitRow). r.walker == walker) (failed_row fs) (λ r. ap (λ (n : ℕ). n == walker) (failed_walker fs r)) k.waits.waits in
    let old = mapped_wait (failed_row fs) (wait_of k.waits.waits walker) row (sym found ∙ e) in
    let ws = waiters_over k.waits.tokens (tokens_of k.waits.tokens fs) in
    let shown : catatonic_observations fs k ≡ seen.Catatonic fs ∷ row_of (Fail ENOENT) ws = ap (λ (more : List Obs). seen.Catatonic fs ∷ more) (failures_row k (tokens_of k.waits.tokens fs)) in
    let told : told_status walker old.0.token (trace ++ seen.Catatonic fs ∷ row_of (Fail ENOENT) ws) ≡ or_status old.0.status (if list_any (is_waiter walker old.0.token) ws then Some (Fail ENOENT) else None) =
    status_append walker old.0.token trace (seen.Catatonic fs ∷ row_of (Fail ENOENT) ws)
    ∙ ap (or_status (told_status walker old.0.token trace)) (status_of_row walker old.0.token (Fail ENOENT) ws)
    ∙ ap (λ (o : Option Status). or_status o (if list_any (is_waiter walker old.0.token) ws then Some (Fail ENOENT) else None)) (sym (h walker old.0 old.1)) in
    subst (λ (more : List Obs). row.status ≡ told_status walker row.token (trace ++ more)) (sym shown)
    (subst (λ (r : WaitRow). r.status ≡ told_status walker r.token (trace ++ seen.Catatonic fs ∷ row_of (Fail ENOENT) ws)) old.2
    (failed_by_cases k fs jobs trace walker old.0 old.0.status fits h old.1 refl
    ∙ sym told
    ∙ ap (λ (n : ℕ). told_status walker n (trace ++ seen.Catatonic fs ∷ row_of (Fail ENOENT) ws)) (sym (failed_token fs old.0))))

-- ---- what walkers do

walkers : tour.Keeps AnyPath ToldBy
walkers = record {
  nothing = λ k jobs trace fits h. subst (AgreeOnStatuses k.waits) (sym (append-nil trace)) h;
  arrived = λ k attempt at passed w jobs trace fits h. quiet k.waits trace _ (λ walker token. status_of_passes walker token attempt.walker passed (seen.Entered attempt.walker at.mount ∷ [])) h;
  joined = λ k attempt token passed w jobs trace fits h. joins k token attempt.walker (token_of k.waits.tokens token) _ jobs trace refl (λ walker t. status_of_passes walker t attempt.walker passed (seen.Waits attempt.walker token ∷ [])) fits h;
  notified = λ k attempt trigger attach passed w is jobs trace fits h. opens k trigger Missing attempt.walker _ jobs trace (λ walker t. status_of_passes walker t attempt.walker passed _) fits h;
  expiring = λ k walker fs moment immediate trigger attach x jobs trace fits h. opens k trigger Expire walker _ jobs trace (λ w t. refl) fits h;
  made_catatonic = closes;
  collected = λ k kind wait status moment shown made g later jobs trace fits h. later jobs trace ((frees kind k wait status moment g).fits jobs trace fits) (collects kind k wait moment trace h);
}

-- ---- events

record Tells (s : State) (shown : List Obs) (t : State) : Type 0 where
  tells : FitsTrace (rows_in s) s.trace → AgreeOnStatuses s.kernel.waits s.trace → AgreeOnStatuses t.kernel.waits (s.trace ++ shown)

stays : (s t : State) (shown : List Obs) → ((walker token : ℕ) → told_status walker token shown ≡ None) → t.kernel.waits ≡ s.kernel.waits → Tells s shown t
stays s t shown none waits = record { tells = λ fits h. subst (λ (w : WaitRows). AgreeOnStatuses w (s.trace ++ shown)) (sym waits) (quiet s.kernel.waits s.trace shown none h) }

recording_quiet : (b : Bool) (trigger : Trigger) (entry : Option Record) (walker token : ℕ) → told_status walker token (if b then [] else seen.Recorded trigger entry ∷ []) ≡ None
recording_quiet true trigger entry walker token = refl
recording_quiet false trigger entry walker token = refl

events : tours.Keeps AnyPath AnyJob ToldBy Tells
events = record {
  same = λ s. stays s s _ (λ w t. refl) refl;
  attached = λ s path point at is fresh may. stays s _ _ (λ w t. refl) refl;
  mounted = λ s ns path at is may. stays s _ _ (λ w t. refl) refl;
  bound = λ s source at may. stays s _ _ (λ w t. refl) refl;
  unmounted = λ s at may. stays s _ _ (λ w t. refl) refl;
  changed = λ s change at may. stays s _ _ (λ w t. refl) refl;
  copied = λ s ns form may. stays s _ _ (λ w t. refl) refl;
  dropped = λ s ns may. stays s _ _ (λ w t. refl) refl;
  walks = walkers;
  walked = λ s shown k moment told. record { tells = λ fits h. told s.daemon.jobs s.trace fits h };
  left = λ s walker mount is. stays s _ _ (λ w t. refl) refl;
  made_catatonic = λ s fs. record { tells = λ fits h. closes s.kernel fs s.daemon.jobs s.trace fits h };
  timed = λ s fs timeout. stays s _ _ (λ w t. refl) refl;
  died = λ s. stays s _ _ (λ w t. refl) refl;
  reattached = λ s fs row is dead. stays s _ _ (λ w t. refl) refl;
  delivered = λ s token row taken. stays s _ _ (recording_quiet (is_reply (plan_of_packet s.daemon row.packet)) _ _) refl;
  rested = λ s row a outcome i r. stays s _ _ (λ w t. refl) refl;
  directory_made = λ s row trigger i. stays s _ _ (λ w t. refl) refl;
  directory_gone = λ s row trigger i. stays s _ _ (λ w t. refl) refl;
  mounted_on = λ s row trigger entry i may. stays s _ _ (λ w t. refl) refl;
  unmounted_on = λ s row trigger mount i u. stays s _ _ (λ w t. refl) refl;
  recorded = λ s row trigger entry i held. stays s _ _ (λ w t. refl) refl;
  replied = λ s row status its i is. record { tells = λ fits h. answers s.kernel row.token status its s.daemon.jobs s.trace is fits h };
}

-- an outcome leaves it so
pub outcome_statuses : (s : State) (event : Event) → FitsTrace (rows_in s) s.trace → AgreeOnStatuses s.kernel.waits s.trace → AgreeOnStatuses (after s (outcome_of s event)).kernel.waits (after s (outcome_of s event)).trace
outcome_statuses s event fits h = (tours.outcome AnyPath AnyJob ToldBy Tells events s event (any_event s event)).well.tells fits h

pub initial_statuses : (opening : Setup) → AgreeOnStatuses (initial_state_of opening).kernel.waits []
initial_statuses opening = λ walker row e. absurd cc
