-- A token has a bar just where the trace tells that it is open.
use Rattle.std.proofs.Common.{◌≡◌, ◌∙◌, ℕ, Bool, true, false, List, [], ◌∷◌, ◌++◌, Option, Some, None, refl, sym, ap, subst}
use Rattle.std.proofs.Common.{append_assoc}
use Rattle.std.specs.Prelude.{◌==◌, ◌||◌, if◌then◌else◌}
use Rattle.std.specs.Option.{option_map}
use Rattle.std.specs.List.{Contains, list_any}
use Rattle.std.proofs.lemmas.List.Elements.{Contains-append_left, Contains-append_right, Contains-push}
use Rattle.am_names.proofs.Basics.{differ_the_other_way, equal_by_test, equal_to_itself}
use Rattle.am_wire.specs.{Packet}
use Rattle.am_wire.specs.declared.packet_type.PacketType.{PacketType}
use Rattle.am_wire.specs.declared.packet_type.PacketType.TheVariants.{MissingIndirect, ExpireIndirect, MissingDirect, ExpireDirect}
use Rattle.am_state.specs.{Obs}
use Rattle.am_state.specs.declared.obs.Obs.TheVariants as seen
use Rattle.am_laws.specs.{Lawful, closes, first_of, is_open, packet_of, queues, since}
use Rattle.am_laws.specs.Counts.{dev_of}
use Rattle.am_lanes.specs.{Look, is_in}
use Rattle.am_lanes.specs.Changes.{unless_ended}
use Rattle.am_lanes.specs.declared.holder.Ending.TheVariants.{In, Of}
use Rattle.am_draw.specs.Lasting.{token_look}
use Rattle.am_draw.specs.Worlds.{bar_seen}

either_way : (a b : ℕ) → (a == b) ≡ (b == a)
either_way a b = by (a == b) refl
  where
    by : (t : Bool) → (a == b) ≡ t → t ≡ (b == a)
    by true e = sym (subst (λ (n : ℕ). (n == a) ≡ true) (equal_by_test a b e) (equal_to_itself a))
    by false e = sym (differ_the_other_way a b e)

-- how the token of a packet looks
abbrev pub packet_look : Packet → Look
packet_look packet = token_look packet.kind packet.dev

in_its_system : (kind : PacketType) (dev fs : ℕ) → is_in fs (token_look kind dev) ≡ (dev == fs)
in_its_system MissingIndirect dev fs = refl
in_its_system ExpireIndirect dev fs = refl
in_its_system MissingDirect dev fs = refl
in_its_system ExpireDirect dev fs = refl

-- ---- behind its packet

abbrev bar_if : Bool → Look → Option Look
bar_if b look = if b then Some look else None

ended_by_cases : (look : Look) (b c : Bool) → (if b then (if c then None else Some look) else None) ≡ bar_if (if c then false else b) look
ended_by_cases look true true = refl
ended_by_cases look true false = refl
ended_by_cases look false true = refl
ended_by_cases look false false = refl

unless_of : (token other : ℕ) (look : Look) (b : Bool) → unless_ended (Of other) token (bar_if b look) ≡ (if b then (if token == other then None else Some look) else None)
unless_of token other look true = refl
unless_of token other look false = refl

unless_in : (token fs : ℕ) (look : Look) (b : Bool) → unless_ended (In fs) token (bar_if b look) ≡ (if b then (if is_in fs look then None else Some look) else None)
unless_in token fs look true = refl
unless_in token fs look false = refl

none_first : (b rest : Bool) → (b || rest) ≡ false → b ≡ false
none_first true rest h = h
none_first false rest h = refl

none_later : (b rest : Bool) → (b || rest) ≡ false → rest ≡ false
none_later true rest h = absurd cc
none_later false rest h = h

-- as long as the token isn't queued once more
bar_since : (token dev : ℕ) (kind : PacketType) (b : Bool) (later : List Obs) → list_any (queues token) later ≡ false
    → bar_seen token (bar_if b (token_look kind dev)) later ≡ bar_if (since (queues token) (closes token (Some dev)) b later) (token_look kind dev)
bar_since token dev kind b [] h = refl
bar_since token dev kind b (seen.Queued other attach packet ∷ later) h =
    let first : (other == token) ≡ false = none_first (other == token) (list_any (queues token) later) h in
    rw first (bar_since token dev kind b later (none_later (other == token) (list_any (queues token) later) h))
bar_since token dev kind b (seen.Answered other status ∷ later) h =
    ap (λ (bar : Option Look). bar_seen token bar later)
    (unless_of token other (token_look kind dev) b
    ∙ ap (λ (c : Bool). if b then (if c then None else Some (token_look kind dev)) else None) (either_way token other)
    ∙ ended_by_cases (token_look kind dev) b (other == token))
    ∙ bar_since token dev kind (if other == token then false else b) later h
bar_since token dev kind b (seen.Catatonic fs ∷ later) h =
    ap (λ (bar : Option Look). bar_seen token bar later)
    (unless_in token fs (token_look kind dev) b
    ∙ ap (λ (c : Bool). if b then (if c then None else Some (token_look kind dev)) else None) (in_its_system kind dev fs)
    ∙ ended_by_cases (token_look kind dev) b (dev == fs))
    ∙ bar_since token dev kind (if dev == fs then false else b) later h
bar_since token dev kind b (_ ∷ later) h = bar_since token dev kind b later h

-- ---- from the beginning

-- it is queued once
abbrev pub Once : ℕ → List Obs → Type 0
Once token [] = Unit {0}
Once token (o ∷ later) = (queues token o ≡ true → list_any (queues token) later ≡ false) × Once token later

abbrev bar_told : ℕ → List Obs → Option Look
bar_told token trace = if is_open token trace then option_map packet_look (packet_of token trace) else None

either_false : (b : Bool) → (if b then false else false) ≡ false
either_false true = refl
either_false false = refl

-- where this packet comes first, or not
abbrev told_first : ℕ → Packet → List Obs → Bool → Option Look
told_first token packet later b =
    let first = first_of (if b then Some packet else None) (packet_of token later) in
    if since (queues token) (closes token (dev_of first)) (if b then true else false) later then option_map packet_look first else None

queued_by_cases : (token : ℕ) (packet : Packet) (later : List Obs) (b : Bool)
    → (b ≡ true → list_any (queues token) later ≡ false) → bar_seen token None later ≡ bar_told token later
    → bar_seen token (if b then Some (packet_look packet) else None) later ≡ told_first token packet later b
queued_by_cases token packet later true once h = bar_since token packet.dev packet.kind true later (once refl)
queued_by_cases token packet later false once h = h

pub bar_is_told : (token : ℕ) (trace : List Obs) → Once token trace → bar_seen token None trace ≡ bar_told token trace
bar_is_told token [] once = refl
bar_is_told token (seen.Queued other attach packet ∷ later) once =
    queued_by_cases token packet later (other == token) once.0 (bar_is_told token later once.1)
bar_is_told token (seen.Answered other status ∷ later) once = rw (either_false (other == token)) (bar_is_told token later once.1)
bar_is_told token (seen.Catatonic fs ∷ later) once = rw (either_false _) (bar_is_told token later once.1)
bar_is_told token (_ ∷ later) once = bar_is_told token later once.1

-- ---- by the laws of a trace

abbrev QueuedOnce : List Obs → ℕ → Type 0
QueuedOnce trace token = (before rest : List Obs) (attach : ℕ) (packet : Packet) → trace ≡ before ++ seen.Queued token attach packet ∷ rest
    → (a : ℕ) (p : Packet) → ¬ Contains before (seen.Queued token a p)

-- none behind one
none_more : (token attach : ℕ) (packet : Packet) (before xs later : List Obs)
    → QueuedOnce (before ++ seen.Queued token attach packet ∷ (xs ++ later)) token → list_any (queues token) later ≡ false
none_more token attach packet before xs [] law = refl
none_more token attach packet before xs (o ∷ later) law = by o (none_more token attach packet before (xs ++ o ∷ []) later (subst (λ (t : List Obs). QueuedOnce (before ++ seen.Queued token attach packet ∷ t) token) (sym (append_assoc xs (o ∷ []) later)) law)) law
  where
    here : (more : List Obs) → Contains (before ++ seen.Queued token attach packet ∷ more) (seen.Queued token attach packet)
    here more = Contains-append_right before (seen.Queued token attach packet ∷ more) (seen.Queued token attach packet)
        (Contains-append_left (seen.Queued token attach packet ∷ []) more (seen.Queued token attach packet) (Contains-push [] (seen.Queued token attach packet)))

    again : (other a : ℕ) (p : Packet) (b : Bool) → (other == token) ≡ b
        → QueuedOnce (before ++ seen.Queued token attach packet ∷ (xs ++ seen.Queued other a p ∷ later)) token → b ≡ false
    again other a p true e law =
        let same = equal_by_test other token e in
        elim (law (before ++ seen.Queued token attach packet ∷ xs) later a p
        (subst (λ (n : ℕ). before ++ seen.Queued token attach packet ∷ (xs ++ seen.Queued n a p ∷ later) ≡ (before ++ seen.Queued token attach packet ∷ xs) ++ seen.Queued token a p ∷ later) (sym same)
        (sym (append_assoc before (seen.Queued token attach packet ∷ xs) (seen.Queued token a p ∷ later))))
        attach packet (here xs)) [ ]
    again other a p false e law = refl

    by : (o : Obs) → list_any (queues token) later ≡ false
        → QueuedOnce (before ++ seen.Queued token attach packet ∷ (xs ++ o ∷ later)) token → (queues token o || list_any (queues token) later) ≡ false
    by (seen.Queued other a p) rest law = rw (again other a p (other == token) refl law) rest
    by _ rest law = rest

once_from : (token : ℕ) (before later : List Obs) → QueuedOnce (before ++ later) token → Once token later
once_from token before [] law = tt
once_from token before (o ∷ later) law =
    (by o law, once_from token (before ++ o ∷ []) later (subst (λ (t : List Obs). QueuedOnce t token) (sym (append_assoc before (o ∷ []) later)) law))
  where
    at : (other attach : ℕ) (packet : Packet) (b : Bool) → (other == token) ≡ b → QueuedOnce (before ++ seen.Queued other attach packet ∷ later) token
        → b ≡ true → list_any (queues token) later ≡ false
    at other attach packet true e law is =
        none_more token attach packet before [] later (subst (λ (n : ℕ). QueuedOnce (before ++ seen.Queued n attach packet ∷ later) token) (equal_by_test other token e) law)
    at other attach packet false e law is = absurd cc

    by : (o : Obs) → QueuedOnce (before ++ o ∷ later) token → queues token o ≡ true → list_any (queues token) later ≡ false
    by (seen.Queued other attach packet) law is = at other attach packet (other == token) refl law is
    by _ law is = absurd cc

pub once_of : (token : ℕ) (trace : List Obs) → Lawful trace → Once token trace
once_of token trace lawful = once_from token [] trace (λ before rest attach packet e. lawful.packets.queued_once before rest token attach packet e)
