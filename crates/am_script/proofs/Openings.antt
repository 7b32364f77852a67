-- A script whose events others play.
use Rattle.std.proofs.Common.{◌≡◌, ◌⊎◌, ◌≤◌, ◌+◌, ◌-◌, ℕ, List, [], ◌∷◌, length, take, Option, Some, None, Result, Ok, Err, IfOk, IfErr, refl, sym, ap, subst, ◌∙◌, inl, inr, arith}
use Rattle.am_machine.specs.{Event, Setup}
use Rattle.am_script.specs.{ScriptFault, ScriptFaultKind, fault_at, IsFaultOr, HeadSoFar, EventsBegin, HeadFault, StopsAt, after_line, first_open, lines_of, lines_in, opening_read, OpenedAs, HasNoWorld, NotOpened, NoRoom, NoNext, cut_line, cut_kind, played, broken, Told, IsInHead, script_from, script_of, script_by, begun_by, events_from, head_ends, told_by, without_world, line_read, LineReadAs, SaysEvent, IsLeft}
use Rattle.am_script.specs.declared.fault.ScriptFaultKind.TheVariants.{NoMemory}
use Rattle.am_script.specs.declared.visit.Opened.{Opened}
use Rattle.am_script.specs.Script.{Script}
use Rattle.am_script.specs.declared.fault.ScriptFaultKind.TheVariants as kinds
use Rattle.am_script.proofs.Heads.{went, begun, begun_at, taken_within, is_in_head, ended}
use Rattle.am_script.proofs.Answering.{events_step}
use Rattle.am_script.proofs.Inputs.{cut_script, cut_text}

no_room : (count number : ℕ) (at : Option ℕ) (fault : ScriptFault) → fault ≡ fault_at number NoMemory → 1 ≤ number → number ≤ count → IsInHead at number → NoRoom count at fault
no_room count number at fault e first fits within =
    let line : fault.line ≡ number = ap (λ (f : ScriptFault). f.line) e in
    record {
      kind = ap (λ (f : ScriptFault). f.kind) e;
      first = omega (arith, line, first);
      line = omega (arith, line, fits);
      head = subst (IsInHead at) (sym line) within;
    }

pub no_world : (script : Script) (fault : ScriptFault) → script ≡ without_world (Some fault) → HasNoWorld script fault
no_world script fault e = (ap (λ (s : Script). s.opening) e, ap (λ (s : Script). s.told) e)

-- a line of the head stops the script, or there is no memory for it
pub head_stops_it : (broke : Option ScriptFaultKind) (all : List (List ℕ)) (head : HeadSoFar) (number : ℕ) (rest : List (List ℕ)) (line : List ℕ) (lines : List (List ℕ)) (fault : ScriptFault) →
    IsLeft all head number rest → rest ≡ line ∷ lines → StopsAt (number + 1) (after_line head (number + 1) line) fault → NotOpened (length all) (script_from broke all) fault
head_stops_it broke all head number rest line lines fault left e (inl t) =
    inl (no_world (script_from broke all) fault (ap (script_by broke all) (went all head number rest line lines (HeadFault fault) left e t)))
head_stops_it broke all head number rest line lines fault left e (inr none) =
    inr (no_room (length all) (number + 1) (script_from broke all).events_at fault none (omega arith) (taken_within all head number rest line lines left e) (is_in_head broke all head number rest left))

more_room : (few many : ℕ) (script : Script) (fault : ScriptFault) → few ≤ many → NotOpened few script fault → NotOpened many script fault
more_room few many script fault fits (inl e) = inl e
more_room few many script fault fits (inr none) = inr (record {
  kind = none.kind;
  first = none.first;
  line = omega (arith, none.line, fits);
  head = none.head;
})

pub begin_fails_it : (before : ℕ) (read : Result Setup ScriptFault) (told : Told) (fault : ScriptFault) → 1 ≤ before → IsFaultOr before fault read → NotOpened before (begun_by read before told) fault
begin_fails_it before read told fault first (inl f) =
    let script : begun_by read before told ≡ begun_by (Err fault) before told = ap (λ (r : Result Setup ScriptFault). begun_by r before told) f in
    inl (ap (λ (s : Script). s.opening) script, ap (λ (s : Script). s.told) script)
begin_fails_it before read told fault first (inr none) =
    inr (no_room before before (begun_by read before told).events_at fault none first (omega arith) (subst (λ (at : Option ℕ). IsInHead at before) (sym (begun_at read before told)) (omega arith)))

-- what is opened behind the head is the whole script
pub begins_opened : (broke : Option ScriptFaultKind) (all : List (List ℕ)) (head next : HeadSoFar) (number : ℕ) (rest : List (List ℕ)) (line : List ℕ) (lines : List (List ℕ)) (r : Result (Option Opened) ScriptFault) →
    IsLeft all head number rest → rest ≡ line ∷ lines → after_line head (number + 1) line ≡ EventsBegin next →
    IfOk r (OpenedAs broke (begun_by (opening_read next.said) (number + 1) (events_from broke (number + 1) lines))) → IfOk r (OpenedAs broke (script_from broke all))
begins_opened broke all head next number rest line lines r left e t h =
    subst (λ (s : Script). IfOk r (OpenedAs broke s)) (sym (begun broke all head next number rest line lines left e t)) h

not_opened_more : (few many : ℕ) (script : Script) (r : Result (Option Opened) ScriptFault) → few ≤ many → IfErr r (NotOpened few script) → IfErr r (NotOpened many script)
not_opened_more few many script (Ok opened) fits h = tt
not_opened_more few many script (Err fault) fits h = more_room few many script fault fits h

pub begins_not : (broke : Option ScriptFaultKind) (all : List (List ℕ)) (head next : HeadSoFar) (number : ℕ) (rest : List (List ℕ)) (line : List ℕ) (lines : List (List ℕ)) (r : Result (Option Opened) ScriptFault) →
    IsLeft all head number rest → rest ≡ line ∷ lines → after_line head (number + 1) line ≡ EventsBegin next →
    IfErr r (NotOpened (number + 1) (begun_by (opening_read next.said) (number + 1) (events_from broke (number + 1) lines))) → IfErr r (NotOpened (length all) (script_from broke all))
begins_not broke all head next number rest line lines r left e t h =
    subst (λ (s : Script). IfErr r (NotOpened (length all) s)) (sym (begun broke all head next number rest line lines left e t)) (not_opened_more (number + 1) (length all) (begun_by (opening_read next.said) (number + 1) (events_from broke (number + 1) lines)) r (taken_within all head number rest line lines left e) h)

-- the script ends within its head
pub ends_so : (broke : Option ScriptFaultKind) (all : List (List ℕ)) (head : HeadSoFar) (number : ℕ) (rest : List (List ℕ)) (fault : Option ScriptFault) →
    IsLeft all head number rest → rest ≡ [] → head_ends broke (first_open head.within) number ≡ without_world fault → script_from broke all ≡ without_world fault
ends_so broke all head number rest fault left e is = ended broke all head number rest left e ∙ is

-- ---- what reading broke off

told_cut : (text slice cut : List ℕ) (kind told : ScriptFaultKind) → slice ≡ text → cut ≡ cut_line slice → told ≡ cut_kind cut kind → Some told ≡ broken (Some kind) text
told_cut text slice cut kind told e f g = ap Some (g ∙ ap (λ (c : List ℕ). cut_kind c kind) (f ∙ ap cut_line e))

pub open_cut : (text slice cut whole : List ℕ) (kind told : ScriptFaultKind) (r : Result (Option Opened) ScriptFault) → slice ≡ text → cut ≡ cut_line slice → told ≡ cut_kind cut kind → whole ≡ take (length slice - length cut) slice →
    IfOk r (OpenedAs (Some told) (script_from (Some told) (lines_of whole))) → IfOk r (OpenedAs (broken (Some kind) text) (script_of (Some kind) text))
open_cut text slice cut whole kind told r e f g h opened =
    subst (λ (s : Script). IfOk r (OpenedAs (broken (Some kind) text) s)) (cut_script text slice cut whole kind told e f g h)
    (subst (λ (b : Option ScriptFaultKind). IfOk r (OpenedAs b (script_from (Some told) (lines_of whole)))) (told_cut text slice cut kind told e f g) opened)

pub not_open_cut : (text slice cut whole : List ℕ) (kind told : ScriptFaultKind) (r : Result (Option Opened) ScriptFault) → slice ≡ text → cut ≡ cut_line slice → told ≡ cut_kind cut kind → whole ≡ take (length slice - length cut) slice →
    IfErr r (NotOpened (length (lines_of whole)) (script_from (Some told) (lines_of whole))) → IfErr r (NotOpened (length (lines_of (played (Some kind) text))) (script_of (Some kind) text))
not_open_cut text slice cut whole kind told r e f g h stopped =
    subst (λ (w : List ℕ). IfErr r (NotOpened (length (lines_of w)) (script_of (Some kind) text))) (cut_text text slice cut whole kind e f h)
    (subst (λ (s : Script). IfErr r (NotOpened (length (lines_of whole)) s)) (cut_script text slice cut whole kind told e f g h) stopped)

-- ---- the next event

pub event_skipped : (all : Told) (broke : Option ScriptFaultKind) (before : ℕ) (rest : Option (List ℕ)) (here line : List ℕ) (lines : List (List ℕ)) →
    all ≡ events_from broke before (lines_in rest) → rest ≡ Some here → lines_of here ≡ line ∷ lines → line_read line ≡ Ok None → all ≡ events_from broke (before + 1) lines
event_skipped all broke before rest here line lines h e f g =
    h ∙ events_step broke before rest here line lines e f ∙ ap (λ (r : Result (Option Event) ScriptFaultKind). told_by r (before + 1) (events_from broke (before + 1) lines)) g

pub event_found : (all : Told) (broke : Option ScriptFaultKind) (before : ℕ) (rest : Option (List ℕ)) (here line : List ℕ) (lines : List (List ℕ)) (event : Event) →
    all ≡ events_from broke before (lines_in rest) → rest ≡ Some here → lines_of here ≡ line ∷ lines → line_read line ≡ Ok (Some event) → all ≡ told_by (Ok (Some event)) (before + 1) (events_from broke (before + 1) lines)
event_found all broke before rest here line lines event h e f g =
    h ∙ events_step broke before rest here line lines e f ∙ ap (λ (r : Result (Option Event) ScriptFaultKind). told_by r (before + 1) (events_from broke (before + 1) lines)) g

-- a fault of the line, or there is no memory for its event
by_kind : (kind : ScriptFaultKind) (said : Result (Option Event) ScriptFaultKind) → LineReadAs said (Err kind) → (said ≡ Err kind) ⊎ ((kind ≡ NoMemory) × SaysEvent said)
by_kind kinds.BadSection said h = inl h
by_kind kinds.BadLimits said h = inl h
by_kind (kinds.BadMaster kind) said h = inl h
by_kind (kinds.BadMap kind) said h = inl h
by_kind kinds.NoSuchMap said h = inl h
by_kind kinds.BadEvent said h = inl h
by_kind kinds.LongLine said h = inl h
by_kind kinds.NoMemory said h = inr (refl, h)
by_kind kinds.ReadFailed said h = inl h
by_kind kinds.WriteFailed said h = inl h
by_kind kinds.NoSuchNamespace said h = inl h

no_room_for : (all left : Told) (number : ℕ) (kind : ScriptFaultKind) (said : Result (Option Event) ScriptFaultKind) → all ≡ told_by said number left → kind ≡ NoMemory → SaysEvent said → NoNext all (fault_at number kind)
no_room_for all left number kind (Ok (Some event)) e k h = inr (record {
  kind = k;
  here = record { line = number; event = event };
  others = left;
  parted = e;
  line = refl;
})
no_room_for all left number kind (Ok None) e k h = absurd h
no_room_for all left number kind (Err fault) e k h = absurd h

fails_so : (all left : Told) (number : ℕ) (kind : ScriptFaultKind) (said : Result (Option Event) ScriptFaultKind) → all ≡ told_by said number left → (said ≡ Err kind) ⊎ ((kind ≡ NoMemory) × SaysEvent said) → NoNext all (fault_at number kind)
fails_so all left number kind said e (inl g) = inl (e ∙ ap (λ (r : Result (Option Event) ScriptFaultKind). told_by r number left) g)
fails_so all left number kind said e (inr none) = no_room_for all left number kind said e none.0 none.1

pub event_fails : (all : Told) (broke : Option ScriptFaultKind) (before : ℕ) (rest : Option (List ℕ)) (here line : List ℕ) (lines : List (List ℕ)) (kind : ScriptFaultKind) →
    all ≡ events_from broke before (lines_in rest) → rest ≡ Some here → lines_of here ≡ line ∷ lines → LineReadAs (line_read line) (Err kind) → NoNext all (fault_at (before + 1) kind)
event_fails all broke before rest here line lines kind h e f g =
    fails_so all (events_from broke (before + 1) lines) (before + 1) kind (line_read line) (h ∙ events_step broke before rest here line lines e f) (by_kind kind (line_read line) g)
