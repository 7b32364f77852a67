-- A walker joins those who wait on an open token.
use Rattle.std.proofs.Common.{◌≡◌, ℕ, ◌≤◌, Bool, true, false, ◌==◌, List, [], ◌∷◌, ◌++◌, Option, Some, None, refl, sym, ap, ◌∙◌, subst, arith}
use Rattle.std.specs.Prelude.{◌||◌, if◌then◌else◌}
use Rattle.std.specs.Option.{option_map}
use Rattle.std.specs.List.{list_any}
use Rattle.std.proofs.lemmas.Bool.Decides.{nat_tests}
use Rattle.std.proofs.lemmas.List.Folds.{list_any-append}
use Rattle.am_names.specs.{OpenToken}
use Rattle.am_names.proofs.Basics.{equal_by_test, some_injective}
use Rattle.am_state.specs.{QueuedRow, Obs}
use Rattle.am_state.specs.declared.obs.Obs.TheVariants as seen
use Rattle.am_wire.specs.{Packet}
use Rattle.am_wait.specs.{WaitRows, token_of, wait_of, with_waiter, waiters_in, joined, joined_on, IsSound, is_waiting_on}
use Rattle.am_wait.proofs.FindLemmas.{joined_if, token_joined}
use Rattle.am_wait.proofs.AgreeLemmas.{joined_sound}
use Rattle.am_laws.specs.{waits, releases, delivers, packet_of, is_open}
use Rattle.am_laws.proofs.Lists.{since-append}
use Rattle.am_machine.specs.{Rows, names, KnowsTokens, Asked, asked_in, asked_by, opened, AgreeOnOpen, has, AreDifferent, WaitersFit, AgreeOnWaiters, PacketFits, FitsTrace}
use Rattle.am_machine.proofs.Traces.Counts.{any_same, packet_same, is_open-append, opened_by_cases, packet_known, waiters_more, or_neither_and}
use Rattle.am_machine.proofs.Traces.Unchanged.{inside_still, queue_more, delivered_more}

-- ---- what an open token says of its number

opened_if : (b : Bool) (p : Option Packet) (asked : Asked) → (if b then option_map asked_in p else None) ≡ Some asked → (b ≡ true) × ((packet : Packet) × (p ≡ Some packet) × (asked_in packet ≡ asked))
opened_if true (Some packet) asked e = (refl, (packet, refl, cc))
opened_if true None asked e = absurd cc
opened_if false p asked e = absurd cc

-- the row of a token: it is open by the trace, and its packet asks for what the row says
pub row_opened : (tokens : List OpenToken) (trace : List Obs) (token : ℕ) (row : OpenToken) → AgreeOnOpen tokens trace → token_of tokens token ≡ Some row → (is_open token trace ≡ true) × ((packet : Packet) × (packet_of token trace ≡ Some packet) × (asked_in packet ≡ asked_by row))
row_opened tokens trace token row h e = opened_if (is_open token trace) (packet_of token trace) (asked_by row) (h token ∙ ap (option_map asked_by) e)

-- ---- clauses

joined_known : (last w token : ℕ) (trace : List Obs) → token ≤ last → KnowsTokens last trace → KnowsTokens last (trace ++ seen.Waits w token ∷ [])
joined_known last w token trace most h = λ k above.
    let other : (token == k) ≡ false = grind (arith, nat_tests, most, above) in
    any_same (names k) trace (seen.Waits w token ∷ []) (rw other refl) ∙ h k above

waits_opened : (k w token : ℕ) (trace : List Obs) → opened k (trace ++ seen.Waits w token ∷ []) ≡ opened k trace
waits_opened k w token trace = opened_by_cases k trace (trace ++ seen.Waits w token ∷ []) (is_open k trace) (is_open-append k trace (seen.Waits w token ∷ [])) (packet_same k trace (seen.Waits w token ∷ []) refl)

same_asked : (w : ℕ) (b : Bool) (o : Option OpenToken) → option_map asked_by (joined_if b w o) ≡ option_map asked_by o
same_asked w true None = refl
same_asked w true (Some row) = refl
same_asked w false o = refl

joined_opens : (w token : ℕ) (tokens : List OpenToken) (trace : List Obs) → AgreeOnOpen tokens trace → AgreeOnOpen (with_waiter token w tokens) (trace ++ seen.Waits w token ∷ [])
joined_opens w token tokens trace h = λ k.
    waits_opened k w token trace ∙ h k ∙ sym (ap (option_map asked_by) (token_joined token w k tokens (token == k) refl) ∙ same_asked w (token == k) (token_of tokens k))

-- ---- waiters

has_more : (v w : ℕ) (walkers : List ℕ) → has v (walkers ++ w ∷ []) ≡ (has v walkers || (w == v || false))
has_more v w walkers = list_any-append (λ other. other == v) walkers (w ∷ [])

-- a walker that isn't among them is put behind
different_more : (w : ℕ) (walkers : List ℕ) → has w walkers ≡ false → AreDifferent walkers → AreDifferent (walkers ++ w ∷ [])
different_more w [] none h = (refl, tt)
different_more w (x ∷ walkers) none h =
    let here : (x == w) ≡ false = grind (arith, nat_tests, none) in
    let later : has w walkers ≡ false = grind (arith, nat_tests, none) in
    (has_more x w walkers ∙ grind (arith, nat_tests, here, h.0), different_more w walkers later h.1)

one_more_waits : (w token : ℕ) (trace : List Obs) (walkers : List ℕ) → has w walkers ≡ false → WaitersFit trace token walkers → WaitersFit (trace ++ seen.Waits w token ∷ []) token (walkers ++ w ∷ [])
one_more_waits w token trace walkers idle h = record {
  waited = λ v.
      let here : list_any (waits v token) (seen.Waits w token ∷ []) ≡ (w == v || false) = grind (arith, nat_tests) in
      list_any-append (waits v token) trace (seen.Waits w token ∷ []) ∙ ap (λ (b : Bool). b || list_any (waits v token) (seen.Waits w token ∷ [])) (h.waited v)
      ∙ ap (λ (b : Bool). has v walkers || b) here ∙ sym (has_more v w walkers);
  unreleased = λ v. any_same (releases v token) trace (seen.Waits w token ∷ []) refl ∙ h.unreleased v;
  different = different_more w walkers idle h.different;
}

waiters_by_cases : (w token k : ℕ) (row : OpenToken) (tokens : List OpenToken) (trace : List Obs) (new : OpenToken) (b : Bool) → (token == k) ≡ b → token_of tokens token ≡ Some row → has w row.waiters ≡ false → AgreeOnWaiters tokens trace →
    joined_if b w (token_of tokens k) ≡ Some new → WaitersFit (trace ++ seen.Waits w token ∷ []) k new.waiters
waiters_by_cases w token k row tokens trace new true e is idle h found =
    let same : token ≡ k = equal_by_test token k e in
    let here : token_of tokens k ≡ Some row = subst (λ (n : ℕ). token_of tokens n ≡ Some row) same is in
    let it : record row { waiters = row.waiters ++ w ∷ [] } ≡ new = some_injective (ap (joined_if true w) (sym here) ∙ found) in
    let fits = one_more_waits w token trace row.waiters idle (h token row is) in
    subst (λ (n : ℕ). WaitersFit (trace ++ seen.Waits w token ∷ []) n new.waiters) same
    (subst (λ (r : OpenToken). WaitersFit (trace ++ seen.Waits w token ∷ []) token r.waiters) it fits)
waiters_by_cases w token k row tokens trace new false e is idle h found =
    waiters_more k trace (seen.Waits w token ∷ []) new.waiters (λ v. or_neither_and (w == v) (token == k) false e refl) (λ v. refl) (h k new found)

-- who has no wait isn't among them
not_among : (w : WaitRows) (token walker : ℕ) (row : OpenToken) → IsSound w → token_of w.tokens token ≡ Some row → wait_of w.waits walker ≡ None → has walker row.waiters ≡ false
not_among w token walker row h is none =
    ap (λ (o : Option OpenToken). has walker (waiters_in o)) (sym is) ∙ h.agree token walker ∙ ap (is_waiting_on token) none

packet_waits : (w token : ℕ) (trace : List Obs) (row : QueuedRow) → PacketFits trace row → PacketFits (trace ++ seen.Waits w token ∷ []) row
packet_waits w token trace row h = record {
  numbered = h.numbered;
  in_queue = since-append _ _ false trace (seen.Waits w token ∷ []) ∙ h.in_queue;
  packet = packet_same row.token trace (seen.Waits w token ∷ []) refl ∙ h.packet;
  undelivered = any_same (delivers row.token) trace (seen.Waits w token ∷ []) refl ∙ h.undelivered;
}

-- ---- all clauses

joined_fits : (r : Rows) (trace : List Obs) (w token : ℕ) (row : OpenToken) → token_of r.waits.tokens token ≡ Some row → wait_of r.waits.waits w ≡ None → FitsTrace r trace →
    FitsTrace (record r { waits = joined_on (Some row) token w r.waits }) (trace ++ seen.Waits w token ∷ [])
joined_fits r trace w token row is none h =
    let more = seen.Waits w token ∷ [] in
    let its = (row_opened r.waits.tokens trace token row h.opens is).1 in
    let most = packet_known r.waits.last_token token trace its.0 h.known its.1 in
    let idle = not_among r.waits token w row h.sound is none in
    record {
      sound = joined_sound r.waits token w row h.sound none is;
      single = h.single;
      known = joined_known r.waits.last_token w token trace most h.known;
      opens = joined_opens w token r.waits.tokens trace h.opens;
      waiters = λ k new e. waiters_by_cases w token k row r.waits.tokens trace new (token == k) refl is idle h.waiters (sym (token_joined token w k r.waits.tokens (token == k) refl) ∙ e);
      inside = inside_still r.uses trace more (record { enters = λ m. refl; leaves = λ m. refl }) h.inside;
      queued = queue_more (PacketFits trace) (PacketFits (trace ++ more)) r.queue (packet_waits w token trace) h.queued;
      delivered = delivered_more r.jobs trace more h.delivered;
    }

pub join_fits : (r : Rows) (trace : List Obs) (w token : ℕ) (row : OpenToken) → token_of r.waits.tokens token ≡ Some row → wait_of r.waits.waits w ≡ None → FitsTrace r trace →
    FitsTrace (record r { waits = joined token w r.waits }) (trace ++ seen.Waits w token ∷ [])
join_fits r trace w token row is none h =
    subst (λ (o : Option OpenToken). FitsTrace (record r { waits = joined_on o token w r.waits }) (trace ++ seen.Waits w token ∷ [])) (sym is) (joined_fits r trace w token row is none h)
