-- The counts of a trace that grows.
use Rattle.std.proofs.Common.{◌≡◌, ℕ, Bool, true, false, List, [], ◌∷◌, ◌++◌, Option, Some, None, refl, sym, ap, subst, ◌∙◌, ◌≤◌, arith, inl, inr}
use Rattle.std.specs.Prelude.{◌&&◌, ◌==◌, ◌||◌, if◌then◌else◌}
use Rattle.std.specs.Option.{option_map}
use Rattle.std.specs.List.{list_any, count_by}
use Rattle.std.proofs.lemmas.Bool.{cases_lt}
use Rattle.std.proofs.lemmas.List.Folds.{list_any-append}
use Rattle.am_names.proofs.Basics.{neither_of_or, both_of_and, false_unless_true, or_left, or_neither}
use Rattle.am_wire.specs.{Packet}
use Rattle.am_state.specs.{Obs}
use Rattle.am_state.specs.declared.obs.Obs.TheVariants.{Queued, Waits, Released, Delivered}
use Rattle.am_laws.specs.{queues, closes, packet_in, waits, releases, delivers, packet_of, first_of, dev_of, fs_of_token, since, is_open}
use Rattle.am_laws.proofs.Lists.{since-append}
use Rattle.am_machine.specs.{KnowsTokens, Asked, asked_in, opened, names, WaitersFit}
use Rattle.am_machine.proofs.Lists.Counts.{count_append}

-- ---- a test of a longer trace

pub or_neither_and : (a b c : Bool) → b ≡ false → c ≡ false → ((a && b) || c) ≡ false
or_neither_and true b c h g = or_neither b c h g
or_neither_and false b c h g = g

or_false : (a b : Bool) → b ≡ false → (a || b) ≡ a
or_false true b e = refl
or_false false b e = e

-- what was not seen in what is new
pub any_same : (test : Obs → Bool) (trace more : List Obs) → list_any test more ≡ false → list_any test (trace ++ more) ≡ list_any test trace
any_same test trace more none = list_any-append test trace more ∙ or_false _ _ none

pub any_stays : (test : Obs → Bool) (trace more : List Obs) → list_any test trace ≡ true → list_any test (trace ++ more) ≡ true
any_stays test trace more h = list_any-append test trace more ∙ or_left _ _ h

pub any_new : (test : Obs → Bool) (trace more : List Obs) → list_any test trace ≡ false → list_any test (trace ++ more) ≡ list_any test more
any_new test trace more none = list_any-append test trace more ∙ ap (λ (b : Bool). b || list_any test more) none

pub count_same : (test : Obs → Bool) (trace more : List Obs) → count_by test more ≡ 0 → count_by test (trace ++ more) ≡ count_by test trace
count_same test trace more none = let e = count_append test trace more in omega (arith, e, none)

weaker_step : (b c d e : Bool) → (b ≡ true → c ≡ true) → (d ≡ true → e ≡ true) → (b || d) ≡ true → (c || e) ≡ true
weaker_step true c d e h g is = rw (h refl) refl
weaker_step false true d e h g is = refl
weaker_step false false d e h g is = g is

any_weaker : (test other : Obs → Bool) (trace : List Obs) → ((o : Obs) → test o ≡ true → other o ≡ true) → list_any test trace ≡ true → list_any other trace ≡ true
any_weaker test other [] h is = is
any_weaker test other (o ∷ trace) h is = weaker_step (test o) (other o) (list_any test trace) (list_any other trace) (h o) (any_weaker test other trace h) is

pub any_none_of : (test other : Obs → Bool) (trace : List Obs) → ((o : Obs) → test o ≡ true → other o ≡ true) → list_any other trace ≡ false → list_any test trace ≡ false
any_none_of test other trace h none = false_unless_true (list_any test trace) (λ is. let yes = any_weaker test other trace h is in absurd cc)

-- ---- what names a token

pub waits_names : (walker token : ℕ) (o : Obs) → waits walker token o ≡ true → names token o ≡ true
waits_names walker token (Waits w k) h = (both_of_and (w == walker) (k == token) h).1
waits_names walker token _ h = absurd cc

pub releases_names : (walker token : ℕ) (o : Obs) → releases walker token o ≡ true → names token o ≡ true
releases_names walker token (Released w k status) h = (both_of_and (w == walker) (k == token) h).1
releases_names walker token _ h = absurd cc

pub delivers_names : (token : ℕ) (o : Obs) → delivers token o ≡ true → names token o ≡ true
delivers_names token (Delivered k attach packet) h = h
delivers_names token _ h = absurd cc

pub queues_names : (token : ℕ) (o : Obs) → queues token o ≡ true → names token o ≡ true
queues_names token (Queued k attach packet) h = h
queues_names token _ h = absurd cc

-- ---- the packet of a token

first_of-assoc : (a b c : Option Packet) → first_of a (first_of b c) ≡ first_of (first_of a b) c
first_of-assoc None b c = refl
first_of-assoc (Some packet) b c = refl

-- the first Queued is in the older part, or else in the newer one
packet_of-append : (token : ℕ) (xs ys : List Obs) → packet_of token (xs ++ ys) ≡ first_of (packet_of token xs) (packet_of token ys)
packet_of-append token [] ys = refl
packet_of-append token (o ∷ xs) ys = ap (first_of (packet_in token o)) (packet_of-append token xs ys) ∙ first_of-assoc (packet_in token o) (packet_of token xs) (packet_of token ys)

first_or_none : (a b : Option Packet) → b ≡ None → first_of a b ≡ a
first_or_none None b e = e
first_or_none (Some packet) b e = refl

pub packet_same : (token : ℕ) (trace more : List Obs) → packet_of token more ≡ None → packet_of token (trace ++ more) ≡ packet_of token trace
packet_same token trace more none = packet_of-append token trace more ∙ first_or_none _ _ none

pub packet_new : (token : ℕ) (trace more : List Obs) → packet_of token trace ≡ None → packet_of token (trace ++ more) ≡ packet_of token more
packet_new token trace more none = packet_of-append token trace more ∙ ap (λ (p : Option Packet). first_of p (packet_of token more)) none

not_queued : (b : Bool) (packet : Packet) → (if b then Some packet else None) ≡ None → b ≡ false
not_queued true packet e = absurd cc
not_queued false packet e = refl

-- an observation that queues the token has its packet
queues_packet : (token : ℕ) (o : Obs) → packet_in token o ≡ None → queues token o ≡ false
queues_packet token (Queued k attach packet) e = not_queued (k == token) packet e
queues_packet token _ e = refl

no_packet : (token : ℕ) (o : Obs) → names token o ≡ false → packet_in token o ≡ None
no_packet token (Queued k attach packet) e = rw e refl
no_packet token _ e = refl

none_first : (a b : Option Packet) → a ≡ None → b ≡ None → first_of a b ≡ None
none_first None b e g = g
none_first (Some packet) b e g = absurd cc

-- a token that isn't named has no packet
pub unnamed_packet : (token : ℕ) (trace : List Obs) → list_any (names token) trace ≡ false → packet_of token trace ≡ None
unnamed_packet token [] h = refl
unnamed_packet token (o ∷ trace) h =
    let both = neither_of_or (names token o) (list_any (names token) trace) h in
    none_first _ _ (no_packet token o both.0) (unnamed_packet token trace both.1)

first_none : (a b : Option Packet) → first_of a b ≡ None → (a ≡ None) × (b ≡ None)
first_none None b e = (refl, e)
first_none (Some packet) b e = absurd cc

-- ---- open tokens

still_false : (d : Bool) → (if d then false else false) ≡ false
still_false true = refl
still_false false = refl

-- what was never queued is not open, whatever closes it
never_since : (token : ℕ) (those : Obs → Bool) (xs : List Obs) → packet_of token xs ≡ None → since (queues token) those false xs ≡ false
never_since token those [] e = refl
never_since token those (o ∷ xs) e =
    let both = first_none (packet_in token o) (packet_of token xs) e in
    let none = queues_packet token o both.0 in
    subst (λ (t : Bool). since (queues token) those (if t then true else if those o then false else false) xs ≡ false) (sym none) (subst (λ (b : Bool). since (queues token) those b xs ≡ false) (sym (still_false (those o))) (never_since token those xs both.1))

open_either : (token : ℕ) (xs ys : List Obs) (found : Option Packet) → packet_of token xs ≡ found → since (queues token) (closes token (fs_of_token token (xs ++ ys))) false xs ≡ is_open token xs
open_either token xs ys None e = never_since token (closes token (fs_of_token token (xs ++ ys))) xs e ∙ sym (never_since token (closes token (fs_of_token token xs)) xs e)
open_either token xs ys (Some packet) e =
    let same : packet_of token (xs ++ ys) ≡ packet_of token xs = packet_of-append token xs ys ∙ ap (λ (p : Option Packet). first_of p (packet_of token ys)) e ∙ sym e in
    ap (λ (p : Option Packet). since (queues token) (closes token (dev_of p)) false xs) same

-- whether a token is open goes on from whether it was
pub is_open-append : (token : ℕ) (xs ys : List Obs) → is_open token (xs ++ ys) ≡ since (queues token) (closes token (fs_of_token token (xs ++ ys))) (is_open token xs) ys
is_open-append token xs ys =
    since-append (queues token) (closes token (fs_of_token token (xs ++ ys))) false xs ys ∙ ap (λ (b : Bool). since (queues token) (closes token (fs_of_token token (xs ++ ys))) b ys) (open_either token xs ys (packet_of token xs) refl)

-- what an open token asks for, by whether it is open and its packet
abbrev asked_if : Bool → Option Packet → Option Asked
asked_if b packet = if b then option_map asked_in packet else None

pub opened_by_cases : (token : ℕ) (old new : List Obs) (b : Bool) → is_open token new ≡ b → packet_of token new ≡ packet_of token old → opened token new ≡ asked_if b (packet_of token old)
opened_by_cases token old new b o p = ap (λ (x : Bool). asked_if x (packet_of token new)) o ∙ ap (λ (x : Option Packet). asked_if b x) p

-- a token with a packet isn't above the latest
pub packet_known : (last token : ℕ) (trace : List Obs) (packet : Packet) → KnowsTokens last trace → packet_of token trace ≡ Some packet → token ≤ last
packet_known last token trace packet h e =
    elim (cases_lt last token) [
      | inl above ↦ let none = unnamed_packet token trace (h token above) in absurd cc
      | inr most ↦ most
    ]

-- ---- waiters

-- where nobody begins to wait on the token, and nobody is released from it
pub waiters_more : (k : ℕ) (trace more : List Obs) (walkers : List ℕ) → ((v : ℕ) → list_any (waits v k) more ≡ false) → ((v : ℕ) → list_any (releases v k) more ≡ false) → WaitersFit trace k walkers → WaitersFit (trace ++ more) k walkers
waiters_more k trace more walkers no_waits no_releases h = record {
  waited = λ v. any_same (waits v k) trace more (no_waits v) ∙ h.waited v;
  unreleased = λ v. any_same (releases v k) trace more (no_releases v) ∙ h.unreleased v;
  different = h.different;
}
