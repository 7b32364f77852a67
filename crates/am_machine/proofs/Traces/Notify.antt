-- A new token: its packet is queued, and its first waiter waits on it.
use Rattle.std.proofs.Common.{◌≡◌, ℕ, ◌+◌, Bool, true, false, cond, ◌==◌, List, [], ◌∷◌, ◌++◌, Option, Some, None, refl, sym, ap, ◌∙◌, subst, arith}
use Rattle.std.specs.Prelude.{◌||◌, if◌then◌else◌}
use Rattle.std.specs.Option.{option_map, option_or}
use Rattle.std.specs.List.{list_any}
use Rattle.std.proofs.lemmas.Bool.Decides.{nat_tests}
use Rattle.std.proofs.lemmas.List.Folds.{find-append}
use Rattle.std.proofs.lemmas.List.Elements.{All-nil, All-cons, All-append}
use Rattle.am_names.specs.declared.trigger.Trigger.{Trigger}
use Rattle.am_names.specs.{OpenToken, TokenKind}
use Rattle.am_names.proofs.Basics.{equal_to_itself, equal_by_test, some_injective, none_where_mapped_none}
use Rattle.am_wire.specs.{Packet}
use Rattle.am_state.specs.{QueuedRow, Obs}
use Rattle.am_state.specs.declared.obs.Obs.TheVariants as seen
use Rattle.am_wait.specs.{token_of, wait_of}
use Rattle.am_wait.specs.Calls as calls
use Rattle.am_wait.proofs.AgreeLemmas.{opened_sound}
use Rattle.am_laws.specs.{waits, releases, delivers, queues_as, unqueues, packet_of, is_open}
use Rattle.am_laws.proofs.Words.{queues_as_same}
use Rattle.am_laws.proofs.Lists.{since-append}
use Rattle.am_machine.specs.{Rows, names, KnowsTokens, Asked, asked_in, asked_by, opened, AgreeOnOpen, WaitersFit, AgreeOnWaiters, PacketFits, AgreeOnQueue, FitsTrace}
use Rattle.am_machine.proofs.Traces.Counts.{any_same, any_new, packet_same, packet_new, is_open-append, opened_by_cases, unnamed_packet, packet_known, any_none_of, waits_names, releases_names, delivers_names, waiters_more, or_neither_and}
use Rattle.am_machine.proofs.Traces.Unchanged.{inside_still, queue_more, delivered_more}

-- what is seen of it
abbrev pub notice : ℕ → ℕ → Packet → ℕ → List Obs
notice token attach packet w = seen.Queued token attach packet ∷ seen.Waits w token ∷ []

abbrev new_token : ℕ → Trigger → TokenKind → ℕ → OpenToken
new_token token trigger kind w = record { token = token; trigger = trigger; kind = kind; waiters = w ∷ [] }

abbrev new_packet : ℕ → ℕ → Packet → QueuedRow
new_packet token attach packet = record { token = token; attach = attach; packet = packet }

-- ---- numbers

notified_known : (last w attach : ℕ) (packet : Packet) (trace : List Obs) → KnowsTokens last trace → KnowsTokens (last + 1) (trace ++ notice (last + 1) attach packet w)
notified_known last w attach packet trace h = λ k above.
    let other : (last + 1 == k) ≡ false = grind (arith, nat_tests, above) in
    any_same (names k) trace (notice (last + 1) attach packet w) (rw other refl) ∙ h k (omega (arith, above))

-- ---- open tokens

other_packet : (k token w attach : ℕ) (packet : Packet) → (token == k) ≡ false → packet_of k (notice token attach packet w) ≡ None
other_packet k token w attach packet e = rw e refl

own_packet : (token w attach : ℕ) (packet : Packet) → packet_of token (notice token attach packet w) ≡ Some packet
own_packet token w attach packet = rw (equal_to_itself token) refl

other_opened : (k token w attach : ℕ) (packet : Packet) (trace : List Obs) → (token == k) ≡ false → opened k (trace ++ notice token attach packet w) ≡ opened k trace
other_opened k token w attach packet trace e =
    opened_by_cases k trace (trace ++ notice token attach packet w) (is_open k trace)
    (is_open-append k trace (notice token attach packet w) ∙ rw e refl)
    (packet_same k trace (notice token attach packet w) (other_packet k token w attach packet e))

own_opened : (token w attach : ℕ) (packet : Packet) (trace : List Obs) → packet_of token trace ≡ None → opened token (trace ++ notice token attach packet w) ≡ Some (asked_in packet)
own_opened token w attach packet trace none =
    let is : is_open token (trace ++ notice token attach packet w) ≡ true = is_open-append token trace (notice token attach packet w) ∙ rw (equal_to_itself token) refl in
    let its : packet_of token (trace ++ notice token attach packet w) ≡ Some packet = packet_new token trace (notice token attach packet w) none ∙ own_packet token w attach packet in
    rw (is, its) refl

asked_none : (b : Bool) (p : Option Packet) → p ≡ None → (if b then option_map asked_in p else None) ≡ None
asked_none true None e = refl
asked_none true (Some packet) e = absurd cc
asked_none false p e = refl

-- a token without a packet has no row
none_opened : (tokens : List OpenToken) (trace : List Obs) (token : ℕ) → AgreeOnOpen tokens trace → packet_of token trace ≡ None → token_of tokens token ≡ None
none_opened tokens trace token h none = none_where_mapped_none asked_by (token_of tokens token) (sym (h token) ∙ asked_none (is_open token trace) (packet_of token trace) none)

opens_by_cases : (k token w attach : ℕ) (trigger : Trigger) (kind : TokenKind) (packet : Packet) (tokens : List OpenToken) (trace : List Obs) (b : Bool) → (token == k) ≡ b → asked_in packet ≡ record { trigger = trigger; kind = kind } → packet_of token trace ≡ None → AgreeOnOpen tokens trace →
    opened k (trace ++ notice token attach packet w) ≡ option_map asked_by (if b then Some (new_token token trigger kind w) else token_of tokens k)
opens_by_cases k token w attach trigger kind packet tokens trace true e asks none h =
    subst (λ (n : ℕ). opened n (trace ++ notice token attach packet w) ≡ Some (record { trigger = trigger; kind = kind })) (equal_by_test token k e) (own_opened token w attach packet trace none ∙ ap (λ (a : Asked). Some a) asks)
opens_by_cases k token w attach trigger kind packet tokens trace false e asks none h = other_opened k token w attach packet trace e ∙ h k

new_by_cases : (token k : ℕ) (row : OpenToken) (b : Bool) (o : Option OpenToken) → (b ≡ true → o ≡ None) → option_or o (cond b (Some row) None) ≡ (if b then Some row else o)
new_by_cases token k row true None h = refl
new_by_cases token k row true (Some old) h = let no = h refl in absurd cc
new_by_cases token k row false None h = refl
new_by_cases token k row false (Some old) h = refl

token_put : (token : ℕ) (trigger : Trigger) (kind : TokenKind) (w k : ℕ) (tokens : List OpenToken) → token_of tokens token ≡ None → token_of (tokens ++ new_token token trigger kind w ∷ []) k ≡ (if token == k then Some (new_token token trigger kind w) else token_of tokens k)
token_put token trigger kind w k tokens none =
    find-append (λ (r : OpenToken). r.token == k) tokens (new_token token trigger kind w ∷ [])
    ∙ new_by_cases token k (new_token token trigger kind w) (token == k) (token_of tokens k) (λ e. subst (λ (n : ℕ). token_of tokens n ≡ None) (equal_by_test token k e) none)

notified_opens : (token w attach : ℕ) (trigger : Trigger) (kind : TokenKind) (packet : Packet) (tokens : List OpenToken) (trace : List Obs) → asked_in packet ≡ record { trigger = trigger; kind = kind } → packet_of token trace ≡ None → AgreeOnOpen tokens trace →
    AgreeOnOpen (tokens ++ new_token token trigger kind w ∷ []) (trace ++ notice token attach packet w)
notified_opens token w attach trigger kind packet tokens trace asks none h = λ k.
    opens_by_cases k token w attach trigger kind packet tokens trace (token == k) refl asks none h
    ∙ sym (ap (option_map asked_by) (token_put token trigger kind w k tokens (none_opened tokens trace token h none)))

-- ---- waiters

first_waits : (w token attach : ℕ) (packet : Packet) (trace : List Obs) → list_any (names token) trace ≡ false → WaitersFit (trace ++ notice token attach packet w) token (w ∷ [])
first_waits w token attach packet trace unnamed = record {
  waited = λ v.
      let here : list_any (waits v token) (notice token attach packet w) ≡ (w == v || false) = grind (arith, nat_tests) in
      any_new (waits v token) trace (notice token attach packet w) (any_none_of (waits v token) (names token) trace (waits_names v token) unnamed) ∙ here;
  unreleased = λ v. any_same (releases v token) trace (notice token attach packet w) refl ∙ any_none_of (releases v token) (names token) trace (releases_names v token) unnamed;
  different = (refl, tt);
}

waiters_by_cases : (w token attach k : ℕ) (trigger : Trigger) (kind : TokenKind) (packet : Packet) (tokens : List OpenToken) (trace : List Obs) (new : OpenToken) (b : Bool) → (token == k) ≡ b → list_any (names token) trace ≡ false → AgreeOnWaiters tokens trace →
    (if b then Some (new_token token trigger kind w) else token_of tokens k) ≡ Some new → WaitersFit (trace ++ notice token attach packet w) k new.waiters
waiters_by_cases w token attach k trigger kind packet tokens trace new true e unnamed h found =
    let fits = first_waits w token attach packet trace unnamed in
    subst (λ (n : ℕ). WaitersFit (trace ++ notice token attach packet w) n new.waiters) (equal_by_test token k e)
    (subst (λ (r : OpenToken). WaitersFit (trace ++ notice token attach packet w) token r.waiters) (some_injective found) fits)
waiters_by_cases w token attach k trigger kind packet tokens trace new false e unnamed h found =
    waiters_more k trace (notice token attach packet w) new.waiters (λ v. or_neither_and (w == v) (token == k) false e refl) (λ v. refl) (h k new found)

notified_waiters : (w token attach : ℕ) (trigger : Trigger) (kind : TokenKind) (packet : Packet) (tokens : List OpenToken) (trace : List Obs) → list_any (names token) trace ≡ false → token_of tokens token ≡ None → AgreeOnWaiters tokens trace →
    AgreeOnWaiters (tokens ++ new_token token trigger kind w ∷ []) (trace ++ notice token attach packet w)
notified_waiters w token attach trigger kind packet tokens trace unnamed new h = λ k row e.
    waiters_by_cases w token attach k trigger kind packet tokens trace row (token == k) refl unnamed h (sym (token_put token trigger kind w k tokens new) ∙ e)

-- ---- the queue

own_queued : (token w attach : ℕ) (packet : Packet) (trace : List Obs) → packet.token ≡ token → list_any (names token) trace ≡ false → PacketFits (trace ++ notice token attach packet w) (new_packet token attach packet)
own_queued token w attach packet trace its unnamed = record {
  numbered = its;
  in_queue = since-append (queues_as token attach packet) (unqueues token packet.dev) false trace (notice token attach packet w) ∙ rw (queues_as_same token attach packet) refl;
  packet = packet_new token trace (notice token attach packet w) (unnamed_packet token trace unnamed) ∙ own_packet token w attach packet;
  undelivered = any_same (delivers token) trace (notice token attach packet w) refl ∙ any_none_of (delivers token) (names token) trace (delivers_names token) unnamed;
}

not_as : (token k a : ℕ) (attach : ℕ) (packet p : Packet) → (token == k) ≡ false → queues_as k a p (seen.Queued token attach packet) ≡ false
not_as token k a attach packet p e = rw e refl

-- a packet of the queue is that of an older token
others_queued : (last w attach : ℕ) (packet : Packet) (trace : List Obs) (row : QueuedRow) → KnowsTokens last trace → PacketFits trace row → PacketFits (trace ++ notice (last + 1) attach packet w) row
others_queued last w attach packet trace row known h =
    let token = last + 1 in
    let most = packet_known last row.token trace row.packet known h.packet in
    let e : (last + 1 == row.token) ≡ false = grind (arith, nat_tests, most) in
    record {
      numbered = h.numbered;
      in_queue = since-append (queues_as row.token row.attach row.packet) (unqueues row.token row.packet.dev) false trace (notice token attach packet w) ∙ rw (not_as token row.token row.attach attach packet row.packet e) h.in_queue;
      packet = packet_same row.token trace (notice token attach packet w) (other_packet row.token token w attach packet e) ∙ h.packet;
      undelivered = any_same (delivers row.token) trace (notice token attach packet w) refl ∙ h.undelivered;
    }

notified_queue : (last w attach : ℕ) (packet : Packet) (queue : List QueuedRow) (trace : List Obs) → packet.token ≡ last + 1 → KnowsTokens last trace → AgreeOnQueue queue trace → AgreeOnQueue (queue ++ new_packet (last + 1) attach packet ∷ []) (trace ++ notice (last + 1) attach packet w)
notified_queue last w attach packet queue trace its known h =
    let fits = PacketFits (trace ++ notice (last + 1) attach packet w) in
    let row = new_packet (last + 1) attach packet in
    All-append fits queue (row ∷ []) (queue_more (PacketFits trace) fits queue (λ r old. others_queued last w attach packet trace r known old) h)
    (All-cons fits row [] (own_queued (last + 1) w attach packet trace its (known (last + 1) (omega arith))) (All-nil fits))

-- ---- all clauses

pub notify_fits : (r : Rows) (trace : List Obs) (w attach : ℕ) (trigger : Trigger) (kind : TokenKind) (packet : Packet) → asked_in packet ≡ record { trigger = trigger; kind = kind } → packet.token ≡ r.waits.last_token + 1 → wait_of r.waits.waits w ≡ None → FitsTrace r trace →
    FitsTrace (record r { waits = calls.opened trigger kind w r.waits; queue = r.queue ++ new_packet (r.waits.last_token + 1) attach packet ∷ [] }) (trace ++ notice (r.waits.last_token + 1) attach packet w)
notify_fits r trace w attach trigger kind packet asks its none h =
    let last = r.waits.last_token in
    let token = last + 1 in
    let more = notice token attach packet w in
    let unnamed = h.known token (omega arith) in
    let no_packet = unnamed_packet token trace unnamed in
    let new = none_opened r.waits.tokens trace token h.opens no_packet in
    record {
      sound = opened_sound r.waits trigger kind w h.sound none;
      single = h.single;
      known = notified_known last w attach packet trace h.known;
      opens = notified_opens token w attach trigger kind packet r.waits.tokens trace asks no_packet h.opens;
      waiters = notified_waiters w token attach trigger kind packet r.waits.tokens trace unnamed new h.waiters;
      inside = inside_still r.uses trace more (record { enters = λ m. refl; leaves = λ m. refl }) h.inside;
      queued = notified_queue last w attach packet r.queue trace its h.known h.queued;
      delivered = delivered_more r.jobs trace more h.delivered;
    }
