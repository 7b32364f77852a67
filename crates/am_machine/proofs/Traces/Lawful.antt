-- What is seen of each change is lawful after a trace that fits the rows.
use Rattle.std.proofs.Common.{◌≡◌, ℕ, Bool, true, false, cond, ◌==◌, List, [], ◌∷◌, ◌++◌, Option, Some, None, refl, sym, ap, subst, ◌∙◌, inl, arith}
use Rattle.std.specs.Prelude.{is_some, find, pos, ◌||◌}
use Rattle.std.specs.Option.{option_map}
use Rattle.std.specs.List.{list_any, count_by, All}
use Rattle.std.proofs.lemmas.List.Elements.{All-nil, All-cons, All-head, All-tail}
use Rattle.am_names.specs.declared.trigger.Trigger.{Trigger}
use Rattle.am_names.specs.{Status, OpenToken}
use Rattle.am_names.specs.declared.row.TokenKind.TheVariants.{Expire}
use Rattle.am_wire.specs.{Packet}
use Rattle.am_state.specs.{QueuedRow, Obs}
use Rattle.am_state.specs.declared.obs.Obs.TheVariants as seen
use Rattle.am_wait.specs.{open_on, is_open_on, token_of}
use Rattle.am_walk.specs.{IsIdle}
use Rattle.am_expire.specs.{Use, is_used, use_count}
use Rattle.am_kernel.specs.Observations as kernel
use Rattle.am_daemon.specs.{JobPlan, job_of}
use Rattle.am_laws.specs.{trigger_of, waits, releases, queues, queues_as, unqueues, enters, leaves, IsOpen, IsExpiring, IsInRow, uses, AllReleased, IsLawfulAt, AreLawful, is_open}
use Rattle.am_names.proofs.SameTriggers.{same_trigger_itself}
use Rattle.am_names.proofs.Basics.{neither_of_or, or_right, equal_to_itself, none_where_mapped_none}
use Rattle.am_laws.proofs.Words.{waits_true, waits_from_test, once_from_test, delivered_from_test, never_queued_from_test, never_delivered_from_test, queued_from_since, zero_uses}
use Rattle.am_laws.proofs.Decided.{is_open_true, open_from_test, has_since}
use Rattle.am_machine.specs.{has, names, Asked, asked_in, asked_by, opened, AgreeOnOpen, WaitersFit, AgreeOnWaiters, AgreeOnUses, PacketFits, AgreeOnJobs}
use Rattle.am_machine.proofs.Lists.Counts.{count_cons}
use Rattle.am_machine.proofs.Traces.Counts.{any_none_of, queues_names, is_open-append}
use Rattle.am_machine.proofs.Traces.Unchanged.{opens_quiet}
use Rattle.am_machine.proofs.Traces.Join.{row_opened}
use Rattle.am_machine.proofs.Traces.Notify.{notice}
use Rattle.am_machine.proofs.Traces.Answer.{answer}
use Rattle.am_machine.proofs.Traces.Releases.{AllMayGo, released_in_row, row_lawful, on_token, releases_row, on_token_has, all_new}

-- ---- passes

mapped : {X Y : Type 0} (f : X → Y) (o : Option X) (y : Y) → option_map f o ≡ Some y → (x : X) × (o ≡ Some x) × (f x ≡ y)
mapped f None y e = absurd cc
mapped f (Some x) y e = (x, refl, cc)

fails_step : {X : Type 0} (test other : X → Bool) (x row : X) (rows : List X) (b c : Bool) → test x ≡ b → cond b (Some x) (find test rows) ≡ None → cond c (Some x) (find other rows) ≡ Some row → (find test rows ≡ None → find other rows ≡ Some row → test row ≡ false) → test row ≡ false
fails_step test other x row rows true c e none is later = absurd cc
fails_step test other x row rows false true e none is later = let same : x ≡ row = cc in subst (λ (y : _). test y ≡ false) same e
fails_step test other x row rows false false e none is later = later none is

-- no row passes a test that none passes
fails_each : {X : Type 0} (test other : X → Bool) (row : X) (rows : List X) → find test rows ≡ None → find other rows ≡ Some row → test row ≡ false
fails_each test other row [] none is = absurd cc
fails_each test other row (x ∷ rows) none is = fails_step test other x row rows (test x) (other x) refl none is (fails_each test other row rows)

asks_same : (row : OpenToken) (packet : Packet) (trigger : Trigger) → asked_by row ≡ asked_in packet → trigger_of packet ≡ trigger → (asked_in packet).kind ≡ Expire → is_open_on Expire trigger row ≡ true
asks_same row packet trigger e t k =
    let its : row.trigger ≡ trigger = ap (λ (a : Asked). a.trigger) e ∙ t in
    let kind : row.kind ≡ Expire = ap (λ (a : Asked). a.kind) e ∙ k in
    rw (its, kind, same_trigger_itself trigger) refl

not_expiring : (tokens : List OpenToken) (trace : List Obs) (trigger : Trigger) → AgreeOnOpen tokens trace → open_on tokens Expire trigger ≡ None → ¬ IsExpiring trace trigger
not_expiring tokens trace trigger h none = λ expiring.
    let token = expiring.token in
    let packet = expiring.packet in
    let is : opened token trace ≡ Some (asked_in packet) = rw (is_open_true trace token expiring.is_open, expiring.is_its) refl in
    let row = mapped asked_by (token_of tokens token) (asked_in packet) (sym (h token) ∙ is) in
    let passes = asks_same row.0 packet trigger row.2 expiring.asks.is_its expiring.asks.asks in
    let fails = fails_each (λ r. is_open_on Expire trigger r) (λ r. r.token == token) row.0 tokens (none_where_mapped_none (λ (r : OpenToken). r.token) (find (λ r. is_open_on Expire trigger r) tokens) none) row.1 in
    absurd cc

pub passes_lawful : (tokens : List OpenToken) (trace : List Obs) (walker : ℕ) (triggers : List Trigger) → AgreeOnOpen tokens trace → All (IsIdle tokens) triggers → AreLawful trace (kernel.passes walker triggers)
passes_lawful tokens trace walker [] h idle = tt
passes_lawful tokens trace walker (trigger ∷ triggers) h idle =
    let first = All-head (IsIdle tokens) trigger triggers idle in
    (not_expiring tokens trace trigger h first.0, passes_lawful tokens (trace ++ seen.Passed walker trigger ∷ []) walker triggers (opens_quiet tokens trace (seen.Passed walker trigger ∷ []) refl h) (All-tail (IsIdle tokens) trigger triggers idle))

-- ---- a token is joined, or opened

pub wait_lawful : (tokens : List OpenToken) (trace : List Obs) (walker token : ℕ) (row : OpenToken) → AgreeOnOpen tokens trace → token_of tokens token ≡ Some row → AreLawful trace (seen.Waits walker token ∷ [])
wait_lawful tokens trace walker token row h is = (open_from_test trace token (row_opened tokens trace token row h is).0, tt)

pub notice_lawful : (trace : List Obs) (token attach walker : ℕ) (packet : Packet) → list_any (names token) trace ≡ false → AreLawful trace (notice token attach packet walker)
notice_lawful trace token attach walker packet unnamed =
    let is : is_open token (trace ++ seen.Queued token attach packet ∷ []) ≡ true = is_open-append token trace (seen.Queued token attach packet ∷ []) ∙ rw (equal_to_itself token) refl in
    (never_queued_from_test token trace (any_none_of (queues token) (names token) trace (queues_names token) unnamed), (open_from_test (trace ++ seen.Queued token attach packet ∷ []) token is, tt))

-- ---- a packet is delivered

pub delivery_lawful : (trace : List Obs) (row : QueuedRow) → PacketFits trace row → AreLawful trace (seen.Delivered row.token row.attach row.packet ∷ [])
delivery_lawful trace row fits =
    let token = row.token in
    ((queued_from_since trace token row.attach row.packet (has_since (queues_as token row.attach row.packet) (unqueues token row.packet.dev) trace fits.in_queue), never_delivered_from_test token trace fits.undelivered), tt)

-- ---- a token is answered

all_may_go : (trace : List Obs) (token : ℕ) (status : Status) (walkers : List ℕ) → IsOpen trace token → ((w : ℕ) → has w walkers ≡ true → list_any (waits w token) trace ≡ true) → ((w : ℕ) → list_any (releases w token) trace ≡ false) →
    AllMayGo trace (seen.Answered token status) status (on_token token walkers)
all_may_go trace token status [] is waited unreleased = tt
all_may_go trace token status (w ∷ walkers) is waited unreleased = (
  record { closed = inl refl; was_open = is; waited = waits_from_test w token trace (waited w (rw (equal_to_itself w) refl)); not_yet = once_from_test w token trace (unreleased w) },
  all_may_go trace token status walkers is (λ v here. waited v (or_right (w == v) (has v walkers) here)) unreleased,
)

every_released : (trace : List Obs) (token : ℕ) (status : Status) (walkers : List ℕ) → WaitersFit trace token walkers → AllReleased trace token (kernel.releases token status walkers)
every_released trace token status walkers fits = λ w waited.
    subst (λ (r : List Obs). IsInRow w token r) (sym (releases_row token status walkers)) (released_in_row w token status (on_token token walkers) (on_token_has token w walkers ∙ sym (fits.waited w) ∙ waits_true w token trace waited))

pub answer_lawful : (tokens : List OpenToken) (jobs : List JobPlan) (trace : List Obs) (token : ℕ) (status : Status) (row : OpenToken) → AgreeOnOpen tokens trace → AgreeOnWaiters tokens trace → AgreeOnJobs jobs trace →
    token_of tokens token ≡ Some row → is_some (job_of jobs token) ≡ true → AreLawful trace (answer token status row.waiters)
answer_lawful tokens jobs trace token status row opens waiters delivered is job =
    let its_open : IsOpen trace token = open_from_test trace token (row_opened tokens trace token row opens is).0 in
    let fits = waiters token row is in
    let here : IsLawfulAt trace (seen.Answered token status) (kernel.releases token status row.waiters) = (its_open, delivered_from_test token trace (delivered token job), every_released trace token status row.waiters fits) in
    let go = all_may_go trace token status row.waiters its_open (λ w in_it. fits.waited w ∙ in_it) fits.unreleased in
    let new = all_new token [] row.waiters (λ v in_it. refl) fits.different in
    (here, subst (λ (r : List Obs). AreLawful (trace ++ seen.Answered token status ∷ []) r) (sym (releases_row token status row.waiters)) (row_lawful trace (seen.Answered token status) status [] (on_token token row.waiters) (λ w k. refl) go new))

-- ---- mounts go

count_by_test : (mount : ℕ) (row : Use) (rows : List Use) (b : Bool) → (row.mount == mount) ≡ b → (b || is_used rows mount) ≡ false → (is_used rows mount ≡ false → use_count rows mount ≡ 0) → use_count (row ∷ rows) mount ≡ 0
count_by_test mount row rows true e h later = absurd cc
count_by_test mount row rows false e h later =
    let c = count_cons (λ (r : Use). r.mount == mount) row rows in
    let none : cond {A = ℕ} (row.mount == mount) 1 0 ≡ 0 = ap (λ (b : Bool). cond {A = ℕ} b 1 0) e in
    let rest = later h in
    omega (arith, c, none, rest)

-- nobody is inside it
nobody_inside : (mount : ℕ) (rows : List Use) → is_used rows mount ≡ false → use_count rows mount ≡ 0
nobody_inside mount [] h = refl
nobody_inside mount (row ∷ rows) h = count_by_test mount row rows (row.mount == mount) refl h (nobody_inside mount rows)

all_unused : (rows : List Use) (trace : List Obs) (mounts : List ℕ) → AgreeOnUses rows trace → list_any (is_used rows) mounts ≡ false → All (λ mount. uses trace mount ≡ pos 0) mounts
all_unused rows trace [] h unused = All-nil (λ m. uses trace m ≡ pos 0)
all_unused rows trace (mount ∷ mounts) h unused =
    let both = neither_of_or (is_used rows mount) (list_any (is_used rows) mounts) unused in
    let none = nobody_inside mount rows both.0 in
    let old = h mount in
    let same : count_by (enters mount) trace ≡ count_by (leaves mount) trace = omega (arith, none, old) in
    All-cons (λ m. uses trace m ≡ pos 0) mount mounts (zero_uses _ _ same) (all_unused rows trace mounts h both.1)

pub unmount_lawful : (rows : List Use) (trace : List Obs) (mounts : List ℕ) → AgreeOnUses rows trace → list_any (is_used rows) mounts ≡ false → AreLawful trace (seen.Unmounted mounts ∷ [])
unmount_lawful rows trace mounts h unused = (all_unused rows trace mounts h unused, tt)
