-- What speaks of no token, and of nobody who enters or leaves, keeps all that ties a trace to its rows.
use Rattle.std.proofs.Common.{◌≡◌, ℕ, Bool, true, false, cond, List, [], ◌∷◌, ◌++◌, Option, None, refl, sym, subst, ◌∙◌, arith}
use Rattle.std.specs.Prelude.{filter, not, if◌then◌else◌}
use Rattle.std.specs.List.{list_any, list_all, count_by, All}
use Rattle.std.proofs.lemmas.List.Elements.{All-nil, All-cons, All-head, All-tail}
use Rattle.am_names.specs.{OpenToken}
use Rattle.am_names.proofs.Basics.{or_neither, both_of_and}
use Rattle.am_wire.specs.{Packet}
use Rattle.am_state.specs.{QueuedRow, Obs}
use Rattle.am_state.specs.declared.obs.Obs.TheVariants.{Queued, Waits, Answered, Catatonic, Released, Delivered}
use Rattle.am_expire.specs.{Use}
use Rattle.am_daemon.specs.{JobPlan}
use Rattle.am_laws.specs.{queues, queues_as, closes, unqueues, waits, releases, delivers, enters, leaves, packet_of, fs_of_token, since, is_open, is_in_queue}
use Rattle.am_laws.proofs.Lists.{since-append}
use Rattle.am_machine.specs.{Rows, names, opened, KnowsTokens, AgreeOnOpen, AgreeOnWaiters, AgreeOnUses, PacketFits, AgreeOnQueue, AgreeOnJobs, FitsTrace}
use Rattle.am_machine.proofs.Traces.Counts.{any_same, any_stays, count_same, packet_same, is_open-append, opened_by_cases, unnamed_packet, waiters_more}

abbrev pub is_quiet : Obs → Bool
is_quiet (Queued token attach packet) = false
is_quiet (Waits walker token) = false
is_quiet (Answered token status) = false
is_quiet (Catatonic fs) = false
is_quiet (Released walker token status) = false
is_quiet (Delivered token attach packet) = false
is_quiet _ = true

abbrev pub IsQuiet : List Obs → Type 0
IsQuiet more = list_all is_quiet more ≡ true

quiet_any : (test : Obs → Bool) (more : List Obs) → ((o : Obs) → is_quiet o ≡ true → test o ≡ false) → IsQuiet more → list_any test more ≡ false
quiet_any test [] h q = refl
quiet_any test (o ∷ more) h q =
    let both = both_of_and (is_quiet o) (list_all is_quiet more) q in
    or_neither _ _ (h o both.0) (quiet_any test more h both.1)

unchanged_where_neither : (t d b : Bool) → t ≡ false → d ≡ false → (if t then true else if d then false else b) ≡ b
unchanged_where_neither true d b e g = absurd cc
unchanged_where_neither false true b e g = absurd cc
unchanged_where_neither false false b e g = refl

quiet_since : (these those : Obs → Bool) (b : Bool) (more : List Obs) → ((o : Obs) → is_quiet o ≡ true → these o ≡ false) → ((o : Obs) → is_quiet o ≡ true → those o ≡ false) → IsQuiet more → since these those b more ≡ b
quiet_since these those b [] h g q = refl
quiet_since these those b (o ∷ more) h g q =
    let both = both_of_and (is_quiet o) (list_all is_quiet more) q in
    subst (λ (c : Bool). since these those c more ≡ b) (sym (unchanged_where_neither (these o) (those o) b (h o both.0) (g o both.0))) (quiet_since these those b more h g both.1)

names_not : (token : ℕ) (o : Obs) → is_quiet o ≡ true → names token o ≡ false
names_not token (Queued k attach packet) q = absurd cc
names_not token (Waits walker k) q = absurd cc
names_not token (Released walker k status) q = absurd cc
names_not token (Delivered k attach packet) q = absurd cc
names_not token _ q = refl

waits_not : (walker token : ℕ) (o : Obs) → is_quiet o ≡ true → waits walker token o ≡ false
waits_not walker token (Waits w k) q = absurd cc
waits_not walker token _ q = refl

releases_not : (walker token : ℕ) (o : Obs) → is_quiet o ≡ true → releases walker token o ≡ false
releases_not walker token (Released w k status) q = absurd cc
releases_not walker token _ q = refl

delivers_not : (token : ℕ) (o : Obs) → is_quiet o ≡ true → delivers token o ≡ false
delivers_not token (Delivered k attach packet) q = absurd cc
delivers_not token _ q = refl

queues_not : (token : ℕ) (o : Obs) → is_quiet o ≡ true → queues token o ≡ false
queues_not token (Queued k attach packet) q = absurd cc
queues_not token _ q = refl

closes_not : (token : ℕ) (fs : Option ℕ) (o : Obs) → is_quiet o ≡ true → closes token fs o ≡ false
closes_not token fs (Answered k status) q = absurd cc
closes_not token fs (Catatonic f) q = absurd cc
closes_not token fs _ q = refl

queues_as_not : (token attach : ℕ) (packet : Packet) (o : Obs) → is_quiet o ≡ true → queues_as token attach packet o ≡ false
queues_as_not token attach packet (Queued k a p) q = absurd cc
queues_as_not token attach packet _ q = refl

unqueues_not : (token fs : ℕ) (o : Obs) → is_quiet o ≡ true → unqueues token fs o ≡ false
unqueues_not token fs (Delivered k a p) q = absurd cc
unqueues_not token fs (Catatonic f) q = absurd cc
unqueues_not token fs _ q = refl

quiet_names : (token : ℕ) (more : List Obs) → IsQuiet more → list_any (names token) more ≡ false
quiet_names token more q = quiet_any (names token) more (names_not token) q

quiet_waits : (walker token : ℕ) (more : List Obs) → IsQuiet more → list_any (waits walker token) more ≡ false
quiet_waits walker token more q = quiet_any (waits walker token) more (waits_not walker token) q

quiet_releases : (walker token : ℕ) (more : List Obs) → IsQuiet more → list_any (releases walker token) more ≡ false
quiet_releases walker token more q = quiet_any (releases walker token) more (releases_not walker token) q

quiet_delivers : (token : ℕ) (more : List Obs) → IsQuiet more → list_any (delivers token) more ≡ false
quiet_delivers token more q = quiet_any (delivers token) more (delivers_not token) q

quiet_packet : (token : ℕ) (more : List Obs) → IsQuiet more → packet_of token more ≡ None
quiet_packet token more q = unnamed_packet token more (quiet_names token more q)

quiet_opened : (token : ℕ) (trace more : List Obs) → IsQuiet more → opened token (trace ++ more) ≡ opened token trace
quiet_opened token trace more q =
    opened_by_cases token trace (trace ++ more) (is_open token trace)
    (is_open-append token trace more ∙ quiet_since (queues token) (closes token (fs_of_token token (trace ++ more))) (is_open token trace) more (queues_not token) (closes_not token (fs_of_token token (trace ++ more))) q)
    (packet_same token trace more (quiet_packet token more q))

quiet_in_queue : (token attach : ℕ) (packet : Packet) (trace more : List Obs) → IsQuiet more → is_in_queue token attach packet (trace ++ more) ≡ is_in_queue token attach packet trace
quiet_in_queue token attach packet trace more q =
    since-append (queues_as token attach packet) (unqueues token packet.dev) false trace more
    ∙ quiet_since (queues_as token attach packet) (unqueues token packet.dev) _ more (queues_as_not token attach packet) (unqueues_not token packet.dev) q

-- ---- clauses

pub known_quiet : (last : ℕ) (trace more : List Obs) → IsQuiet more → KnowsTokens last trace → KnowsTokens last (trace ++ more)
known_quiet last trace more q h = λ token above. any_same (names token) trace more (quiet_names token more q) ∙ h token above

pub opens_quiet : (tokens : List OpenToken) (trace more : List Obs) → IsQuiet more → AgreeOnOpen tokens trace → AgreeOnOpen tokens (trace ++ more)
opens_quiet tokens trace more q h = λ token. quiet_opened token trace more q ∙ h token

pub waiters_quiet : (tokens : List OpenToken) (trace more : List Obs) → IsQuiet more → AgreeOnWaiters tokens trace → AgreeOnWaiters tokens (trace ++ more)
waiters_quiet tokens trace more q h = λ token row e.
    waiters_more token trace more row.waiters (λ v. quiet_waits v token more q) (λ v. quiet_releases v token more q) (h token row e)

-- nobody enters a mount or leaves one
pub record IsStill (more : List Obs) : Type 0 where
  pub enters : (mount : ℕ) → count_by (enters mount) more ≡ 0
  pub leaves : (mount : ℕ) → count_by (leaves mount) more ≡ 0

pub inside_still : (uses : List Use) (trace more : List Obs) → IsStill more → AgreeOnUses uses trace → AgreeOnUses uses (trace ++ more)
inside_still uses trace more q h = λ mount.
    let e = count_same (enters mount) trace more (q.enters mount) in
    let l = count_same (leaves mount) trace more (q.leaves mount) in
    let old = h mount in
    omega (arith, e, l, old)

-- each row of a queue stays what it is
pub queue_more : (P Q : QueuedRow → Type 0) (queue : List QueuedRow) → ((row : QueuedRow) → P row → Q row) → All P queue → All Q queue
queue_more P Q [] more h = All-nil Q
queue_more P Q (row ∷ queue) more h = All-cons Q row queue (more row (All-head P row queue h)) (queue_more P Q queue more (All-tail P row queue h))

kept_by_cases : (P Q : QueuedRow → Type 0) (row : QueuedRow) (others : List QueuedRow) (b : Bool) → (b ≡ false → P row → Q row) → P row → All Q others → All Q (cond (not b) (row ∷ others) others)
kept_by_cases P Q row others true more here later = later
kept_by_cases P Q row others false more here later = All-cons Q row others (more refl here) later

-- and so does each one that isn't taken out
pub queue_kept : (P Q : QueuedRow → Type 0) (gone : QueuedRow → Bool) (queue : List QueuedRow) → ((row : QueuedRow) → gone row ≡ false → P row → Q row) → All P queue → All Q (filter (λ row. not (gone row)) queue)
queue_kept P Q gone [] more h = All-nil Q
queue_kept P Q gone (row ∷ queue) more h =
    kept_by_cases P Q row (filter (λ other. not (gone other)) queue) (gone row) (more row) (All-head P row queue h) (queue_kept P Q gone queue more (All-tail P row queue h))

packet_quiet : (trace more : List Obs) (row : QueuedRow) → IsQuiet more → PacketFits trace row → PacketFits (trace ++ more) row
packet_quiet trace more row q h = record {
  numbered = h.numbered;
  in_queue = quiet_in_queue row.token row.attach row.packet trace more q ∙ h.in_queue;
  packet = packet_same row.token trace more (quiet_packet row.token more q) ∙ h.packet;
  undelivered = any_same (delivers row.token) trace more (quiet_delivers row.token more q) ∙ h.undelivered;
}

pub queued_quiet : (queue : List QueuedRow) (trace more : List Obs) → IsQuiet more → AgreeOnQueue queue trace → AgreeOnQueue queue (trace ++ more)
queued_quiet queue trace more q h = queue_more (PacketFits trace) (PacketFits (trace ++ more)) queue (λ row fits. packet_quiet trace more row q fits) h

-- a job's delivery is in any longer trace
pub delivered_more : (jobs : List JobPlan) (trace more : List Obs) → AgreeOnJobs jobs trace → AgreeOnJobs jobs (trace ++ more)
delivered_more jobs trace more h = λ job is. any_stays (delivers job) trace more (h job is)

pub quiet_fits : (r : Rows) (trace more : List Obs) → IsQuiet more → IsStill more → FitsTrace r trace → FitsTrace r (trace ++ more)
quiet_fits r trace more q still h = record {
  sound = h.sound;
  single = h.single;
  known = known_quiet r.waits.last_token trace more q h.known;
  opens = opens_quiet r.waits.tokens trace more q h.opens;
  waiters = waiters_quiet r.waits.tokens trace more q h.waiters;
  inside = inside_still r.uses trace more still h.inside;
  queued = queued_quiet r.queue trace more q h.queued;
  delivered = delivered_more r.jobs trace more h.delivered;
}
