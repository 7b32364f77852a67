-- A token that was closed stays so, whatever is seen later.
use Rattle.std.proofs.Common.{◌≡◌, ◌⊎◌, ℕ, Bool, true, false, List, [], ◌∷◌, ◌++◌, Option, Some, None, refl, sym, ap, subst, inl, inr, ◌∙◌, append_assoc}
use Rattle.std.specs.Prelude.{◌==◌, ◌||◌, if◌then◌else◌}
use Rattle.std.specs.Option.{option_map}
use Rattle.std.specs.List.{list_any}
use Rattle.std.proofs.lemmas.List.{append-nil}
use Rattle.am_names.specs.{OpenToken}
use Rattle.am_names.proofs.Basics.{none_where_mapped_none, some_injective}
use Rattle.am_wire.specs.{Packet}
use Rattle.am_state.specs.{Obs}
use Rattle.am_state.specs.declared.obs.Obs.TheVariants.{Queued}
use Rattle.am_wait.specs.{token_of}
use Rattle.am_laws.specs.{queues, closes, packet_in, packet_of, fs_of_token, first_of, dev_of, WereLawful, Has, is_open, since, Lawful}
use Rattle.am_laws.proofs.Decided.{open_from_test}
use Rattle.am_laws.proofs.Late.{queued_once, open_queued}
use Rattle.am_laws.proofs.Lists.{since-append, since_no}
use Rattle.am_laws.proofs.Places.{at_place, lawful_from_front}
use Rattle.am_laws.proofs.Grows.{packet_early}
use Rattle.am_machine.specs.{Event, Answer, Run, Asked, asked_in, asked_by, IsTraced}
use Rattle.am_machine.specs.State.{State}
use Rattle.am_machine.proofs.Consistent.{step_lawful}

-- ---- the trace of a run

-- what a run adds to the trace
pub run_adds : (old : State) (events : List Event) (answers : List Answer) (new : State) → Run old events answers new → (more : List Obs) × (new.trace ≡ old.trace ++ more)
run_adds old [] [] new run = ([], ap (λ (s : State). s.trace) run ∙ sym (append-nil old.trace))
run_adds old (event ∷ events) (answer ∷ answers) new run =
    let rest = run_adds run.0 events answers new run.3 in
    let first = (step_lawful old event answer run.1 run.0 run.2).trace in
    (run.1 ++ rest.0, rest.1 ∙ ap (λ (seen : List Obs). seen ++ rest.0) first ∙ append_assoc old.trace run.1 rest.0)
run_adds old [] (answer ∷ answers) new run = absurd run
run_adds old (event ∷ events) [] new run = absurd run

-- ---- a token that was queued

packet_if : (b : Bool) (packet : Packet) (first later : Option Packet) → (b ≡ true) ⊎ (later ≡ first) → first_of (if b then Some packet else None) later ≡ first_of (if b then Some packet else None) first
packet_if true packet first later h = refl
packet_if false packet first later (inl h) = absurd cc
packet_if false packet first later (inr h) = h

packet_step : (token : ℕ) (o : Obs) (first later : Option Packet) → (queues token o ≡ true) ⊎ (later ≡ first) → first_of (packet_in token o) later ≡ first_of (packet_in token o) first
packet_step token (Queued k attach packet) first later h = packet_if (k == token) packet first later h
packet_step token o first later (inl h) = absurd cc
packet_step token o first later (inr h) = h

has_by_cases : (token : ℕ) (o : Obs) (old more : List Obs) (b : Bool) → queues token o ≡ b → (Has (queues token) old → packet_of token (old ++ more) ≡ packet_of token old) → (b || list_any (queues token) old) ≡ true → (queues token o ≡ true) ⊎ (packet_of token (old ++ more) ≡ packet_of token old)
has_by_cases token o old more true is later h = inl is
has_by_cases token o old more false is later h = inr (later h)

were_lawful : (trace : List Obs) → Lawful trace → WereLawful trace
were_lawful trace h before o later e = (later, at_place [] trace before later o (lawful_from_front trace h) e)

-- a token that isn't open any more isn't opened again
trace_stays : (token : ℕ) (old more : List Obs) → Lawful (old ++ more) → Has (queues token) old → is_open token old ≡ false → is_open token (old ++ more) ≡ false
trace_stays token old more lawful queued shut =
    let these = queues token in
    let those = closes token (fs_of_token token old) in
    ap (λ (fs : Option ℕ). since these (closes token fs) false (old ++ more)) (ap dev_of (packet_early token old more queued))
    ∙ since-append these those false old more
    ∙ ap (λ (b : Bool). since these those b more) shut
    ∙ since_no these those more (queued_once token old more (were_lawful (old ++ more) lawful) queued)

-- ---- the rows tell the same

opened_by_cases : (token : ℕ) (trace : List Obs) (b : Bool) → is_open token trace ≡ b → (if b then option_map asked_in (packet_of token trace) else None) ≡ None → Has (queues token) trace → (packet_of token trace ≡ None → ⊥) → b ≡ false
opened_by_cases token trace false is none queued has = refl
opened_by_cases token trace true is none queued has = absurd (has (unmapped (packet_of token trace) none))
  where
    unmapped : (o : Option Packet) → option_map asked_in o ≡ None → o ≡ None
    unmapped None e = refl
    unmapped (Some packet) e = absurd cc

first_some : (b : Bool) (packet : Packet) (later : Option Packet) → b ≡ true → first_of (if b then Some packet else None) later ≡ None → ⊥
first_some true packet later e none = absurd cc
first_some false packet later e none = absurd cc

queues_some : (token : ℕ) (o : Obs) (later : Option Packet) → queues token o ≡ true → first_of (packet_in token o) later ≡ None → ⊥
queues_some token (Queued k attach packet) later is none = first_some (k == token) packet later is none
queues_some token o later is none = absurd cc

behind_none : (o p : Option Packet) → first_of o p ≡ None → p ≡ None
behind_none None p e = e
behind_none (Some packet) p e = absurd cc

has_packet_by_cases : (token : ℕ) (o : Obs) (trace : List Obs) (b : Bool) → queues token o ≡ b → (Has (queues token) trace → packet_of token trace ≡ None → ⊥) → (b || list_any (queues token) trace) ≡ true → first_of (packet_in token o) (packet_of token trace) ≡ None → ⊥
has_packet_by_cases token o trace true is later h none = queues_some token o (packet_of token trace) is none
has_packet_by_cases token o trace false is later h none = later h (behind_none (packet_in token o) (packet_of token trace) none)

has_packet : (token : ℕ) (trace : List Obs) → Has (queues token) trace → packet_of token trace ≡ None → ⊥
has_packet token [] h none = absurd cc
has_packet token (o ∷ trace) h none = has_packet_by_cases token o trace (queues token o) refl (has_packet token trace) h none

-- an open token was queued
pub was_queued : (s : State) (token : ℕ) (row : OpenToken) → IsTraced s → token_of s.kernel.waits.tokens token ≡ Some row → Has (queues token) s.trace
was_queued s token row h is =
    open_queued s.trace token (open_from_test s.trace token (by (is_open token s.trace) refl (h.fits.opens token ∙ ap (option_map asked_by) is)))
  where
    by : (b : Bool) → is_open token s.trace ≡ b → (if b then option_map asked_in (packet_of token s.trace) else None) ≡ Some (asked_by row) → is_open token s.trace ≡ true
    by true is e = is
    by false is e = absurd cc

-- and once it is closed it stays so
pub stays_closed : (old new : State) (token : ℕ) (more : List Obs) → IsTraced old → IsTraced new → new.trace ≡ old.trace ++ more → Has (queues token) old.trace → token_of old.kernel.waits.tokens token ≡ None → token_of new.kernel.waits.tokens token ≡ None
stays_closed old new token more was now grows queued shut =
    let before : is_open token old.trace ≡ false = opened_by_cases token old.trace (is_open token old.trace) refl (was.fits.opens token ∙ ap (option_map asked_by) shut) queued (has_packet token old.trace queued) in
    let after : is_open token new.trace ≡ false = ap (is_open token) grows ∙ trace_stays token old.trace more (subst Lawful grows now.lawful) queued before in
    none_where_mapped_none asked_by (token_of new.kernel.waits.tokens token) (sym (now.fits.opens token) ∙ ap (λ (b : Bool). if b then option_map asked_in (packet_of token new.trace) else None) after)

-- ---- what an open token asks for stays

asks_by_cases : (b : Bool) (o : Option Packet) (asked : Asked) → (if b then option_map asked_in o else None) ≡ Some asked → option_map asked_in o ≡ Some asked
asks_by_cases true o asked e = e
asks_by_cases false o asked e = absurd cc

asks : (s : State) (token : ℕ) (row : OpenToken) → IsTraced s → token_of s.kernel.waits.tokens token ≡ Some row → option_map asked_in (packet_of token s.trace) ≡ Some (asked_by row)
asks s token row h is = asks_by_cases (is_open token s.trace) (packet_of token s.trace) (asked_by row) (h.fits.opens token ∙ ap (option_map asked_by) is)

pub same_trigger_later : (old new : State) (token : ℕ) (more : List Obs) (a b : OpenToken) → IsTraced old → IsTraced new → new.trace ≡ old.trace ++ more → token_of old.kernel.waits.tokens token ≡ Some a → token_of new.kernel.waits.tokens token ≡ Some b → b.trigger ≡ a.trigger
same_trigger_later old new token more a b was now grows is later =
    let packets : packet_of token new.trace ≡ packet_of token old.trace = ap (packet_of token) grows ∙ packet_early token old.trace more (was_queued old token a was is) in
    ap (λ (asked : Asked). asked.trigger) (some_injective (sym (asks new token b now later) ∙ ap (option_map asked_in) packets ∙ asks old token a was is))
