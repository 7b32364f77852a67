-- An open token is answered: it closes, and all its waiters are released.
use Rattle.std.proofs.Common.{◌≡◌, ℕ, ◌≤◌, Bool, true, false, cond, ◌==◌, List, [], ◌∷◌, ◌++◌, Option, Some, None, refl, sym, ap, ◌∙◌, arith}
use Rattle.std.specs.Prelude.{if◌then◌else◌}
use Rattle.std.specs.Option.{option_map}
use Rattle.std.specs.List.{list_any, count_by}
use Rattle.std.proofs.lemmas.Bool.Decides.{nat_tests}
use Rattle.am_names.specs.{Status, OpenToken}
use Rattle.am_wire.specs.{Packet}
use Rattle.am_state.specs.{QueuedRow, Obs}
use Rattle.am_state.specs.declared.obs.Obs.TheVariants as seen
use Rattle.am_wait.specs.{token_of, without_token, answered}
use Rattle.am_wait.proofs.FindLemmas.{token_taken}
use Rattle.am_wait.proofs.AgreeLemmas.{answered_sound}
use Rattle.am_kernel.specs.Observations as kernel
use Rattle.am_laws.specs.{waits, releases, delivers, queues, closes, queues_as, unqueues, enters, leaves, packet_of, since, is_open}
use Rattle.am_laws.proofs.Lists.{since-append}
use Rattle.am_machine.specs.{Rows, names, KnowsTokens, Asked, asked_in, asked_by, opened, AgreeOnOpen, WaitersFit, AgreeOnWaiters, PacketFits, FitsTrace}
use Rattle.am_machine.proofs.Traces.Counts.{any_same, packet_same, is_open-append, opened_by_cases, packet_known, waiters_more, or_neither_and}
use Rattle.am_machine.proofs.Traces.Unchanged.{delivered_more, inside_still, queue_more}
use Rattle.am_machine.proofs.Traces.Join.{row_opened}

-- what is seen of it
abbrev pub answer : ℕ → Status → List ℕ → List Obs
answer token status walkers = seen.Answered token status ∷ kernel.releases token status walkers

-- ---- the row of releases

row_names : (k token : ℕ) (status : Status) (walkers : List ℕ) → (token == k) ≡ false → list_any (names k) (kernel.releases token status walkers) ≡ false
row_names k token status [] e = refl
row_names k token status (w ∷ walkers) e = rw e (row_names k token status walkers e)

row_waits : (v k token : ℕ) (status : Status) (walkers : List ℕ) → list_any (waits v k) (kernel.releases token status walkers) ≡ false
row_waits v k token status [] = refl
row_waits v k token status (w ∷ walkers) = row_waits v k token status walkers

row_releases : (v k token : ℕ) (status : Status) (walkers : List ℕ) → (token == k) ≡ false → list_any (releases v k) (kernel.releases token status walkers) ≡ false
row_releases v k token status [] e = refl
row_releases v k token status (w ∷ walkers) e = or_neither_and (w == v) (token == k) _ e (row_releases v k token status walkers e)

row_delivers : (k token : ℕ) (status : Status) (walkers : List ℕ) → list_any (delivers k) (kernel.releases token status walkers) ≡ false
row_delivers k token status [] = refl
row_delivers k token status (w ∷ walkers) = row_delivers k token status walkers

row_packet : (k token : ℕ) (status : Status) (walkers : List ℕ) → packet_of k (kernel.releases token status walkers) ≡ None
row_packet k token status [] = refl
row_packet k token status (w ∷ walkers) = row_packet k token status walkers

row_since : (k token : ℕ) (fs : Option ℕ) (b : Bool) (status : Status) (walkers : List ℕ) → since (queues k) (closes k fs) b (kernel.releases token status walkers) ≡ b
row_since k token fs b status [] = refl
row_since k token fs b status (w ∷ walkers) = row_since k token fs b status walkers

row_queued : (k attach token : ℕ) (packet : Packet) (b : Bool) (status : Status) (walkers : List ℕ) → since (queues_as k attach packet) (unqueues k packet.dev) b (kernel.releases token status walkers) ≡ b
row_queued k attach token packet b status [] = refl
row_queued k attach token packet b status (w ∷ walkers) = row_queued k attach token packet b status walkers

row_enters : (mount token : ℕ) (status : Status) (walkers : List ℕ) → count_by (enters mount) (kernel.releases token status walkers) ≡ 0
row_enters mount token status [] = refl
row_enters mount token status (w ∷ walkers) = row_enters mount token status walkers

row_leaves : (mount token : ℕ) (status : Status) (walkers : List ℕ) → count_by (leaves mount) (kernel.releases token status walkers) ≡ 0
row_leaves mount token status [] = refl
row_leaves mount token status (w ∷ walkers) = row_leaves mount token status walkers

-- ---- tokens

answered_known : (last token : ℕ) (status : Status) (walkers : List ℕ) (trace : List Obs) → token ≤ last → KnowsTokens last trace → KnowsTokens last (trace ++ answer token status walkers)
answered_known last token status walkers trace most h = λ k above.
    any_same (names k) trace (answer token status walkers) (row_names k token status walkers (grind (arith, nat_tests, most, above))) ∙ h k above

asked_if : (b was : Bool) (p : Option Packet) → (if (if b then false else was) then option_map asked_in p else None) ≡ (if b then None else if was then option_map asked_in p else None)
asked_if true was p = refl
asked_if false was p = refl

answered_opened : (k token : ℕ) (status : Status) (walkers : List ℕ) (trace : List Obs) → opened k (trace ++ answer token status walkers) ≡ (if token == k then None else opened k trace)
answered_opened k token status walkers trace =
    opened_by_cases k trace (trace ++ answer token status walkers) (if token == k then false else is_open k trace)
    (is_open-append k trace (answer token status walkers) ∙ row_since k token _ _ status walkers)
    (packet_same k trace (answer token status walkers) (row_packet k token status walkers))
    ∙ asked_if (token == k) (is_open k trace) (packet_of k trace)

mapped_if : (b : Bool) (o : Option OpenToken) → (if b then None else option_map asked_by o) ≡ option_map asked_by (if b then None else o)
mapped_if true o = refl
mapped_if false o = refl

answered_opens : (token : ℕ) (status : Status) (walkers : List ℕ) (tokens : List OpenToken) (trace : List Obs) → AgreeOnOpen tokens trace → AgreeOnOpen (without_token token tokens) (trace ++ answer token status walkers)
answered_opens token status walkers tokens trace h = λ k.
    answered_opened k token status walkers trace ∙ ap (λ (o : Option Asked). if token == k then None else o) (h k) ∙ mapped_if (token == k) (token_of tokens k)
    ∙ ap (option_map asked_by) (sym (token_taken token tokens k (token == k) refl))

-- ---- waiters and the queue

waiters_by_cases : (token k : ℕ) (status : Status) (walkers : List ℕ) (tokens : List OpenToken) (trace : List Obs) (row : OpenToken) (b : Bool) → (token == k) ≡ b → AgreeOnWaiters tokens trace →
    cond b None (token_of tokens k) ≡ Some row → WaitersFit (trace ++ answer token status walkers) k row.waiters
waiters_by_cases token k status walkers tokens trace row true e h found = absurd cc
waiters_by_cases token k status walkers tokens trace row false e h found =
    waiters_more k trace (answer token status walkers) row.waiters (λ v. row_waits v k token status walkers) (λ v. row_releases v k token status walkers e) (h k row found)

answered_waiters : (token : ℕ) (status : Status) (walkers : List ℕ) (tokens : List OpenToken) (trace : List Obs) → AgreeOnWaiters tokens trace → AgreeOnWaiters (without_token token tokens) (trace ++ answer token status walkers)
answered_waiters token status walkers tokens trace h = λ k row e.
    waiters_by_cases token k status walkers tokens trace row (token == k) refl h (sym (token_taken token tokens k (token == k) refl) ∙ e)

packet_answered : (token : ℕ) (status : Status) (walkers : List ℕ) (trace : List Obs) (row : QueuedRow) → PacketFits trace row → PacketFits (trace ++ answer token status walkers) row
packet_answered token status walkers trace row h =
    let more = answer token status walkers in
    let k = row.token in
    record {
      numbered = h.numbered;
      in_queue = since-append (queues_as k row.attach row.packet) (unqueues k row.packet.dev) false trace more ∙ row_queued k row.attach token row.packet _ status walkers ∙ h.in_queue;
      packet = packet_same k trace more (row_packet k token status walkers) ∙ h.packet;
      undelivered = any_same (delivers k) trace more (row_delivers k token status walkers) ∙ h.undelivered;
    }

-- ---- all clauses

pub answer_fits : (r : Rows) (trace : List Obs) (token : ℕ) (status : Status) (row : OpenToken) → token_of r.waits.tokens token ≡ Some row → FitsTrace r trace →
    FitsTrace (record r { waits = answered token status r.waits }) (trace ++ answer token status row.waiters)
answer_fits r trace token status row is h =
    let walkers = row.waiters in
    let more = answer token status walkers in
    let its = (row_opened r.waits.tokens trace token row h.opens is).1 in
    let most = packet_known r.waits.last_token token trace its.0 h.known its.1 in
    record {
      sound = answered_sound r.waits token status h.sound;
      single = h.single;
      known = answered_known r.waits.last_token token status walkers trace most h.known;
      opens = answered_opens token status walkers r.waits.tokens trace h.opens;
      waiters = answered_waiters token status walkers r.waits.tokens trace h.waiters;
      inside = inside_still r.uses trace more (record { enters = λ m. row_enters m token status walkers; leaves = λ m. row_leaves m token status walkers }) h.inside;
      queued = queue_more (PacketFits trace) (PacketFits (trace ++ more)) r.queue (packet_answered token status walkers trace) h.queued;
      delivered = delivered_more r.jobs trace more h.delivered;
    }
