-- A script whose head is read line by line.
use Rattle.std.specs.Prelude.{⊤}
use Rattle.std.proofs.Common.{◌≡◌, ◌≤◌, ◌+◌, ℕ, List, [], ◌∷◌, length, drop, Option, Some, None, Result, Ok, Err, refl, sym, ap, subst, ◌∙◌, arith}
use Rattle.std.proofs.lemmas.List.{drop-drop}
use Rattle.am_machine.specs.{Setup}
use Rattle.am_script.specs.{ScriptFault, ScriptFaultKind, parts_of_lines, Headed, Begins, Ends, Faulty, head_of, HeadSoFar, no_lines, Taken, GoesOn, EventsBegin, HeadFault, after_line, first_open, opening_read, Told, IsInHead, script_from, script_by, begun_by, events_from, head_ends, IsLeft, head_left}
use Rattle.am_script.proofs.HeadSteps.{follows, head_step, head_ends_so}

pub none_taken : (all : List (List ℕ)) → IsLeft all no_lines 0 all
none_taken all = record { goes = refl; behind = refl; counted = omega arith }

pub went : (all : List (List ℕ)) (head : HeadSoFar) (number : ℕ) (rest : List (List ℕ)) (line : List ℕ) (lines : List (List ℕ)) (taken : Taken) →
    IsLeft all head number rest → rest ≡ line ∷ lines → after_line head (number + 1) line ≡ taken → head_of (parts_of_lines all) ≡ follows taken (number + 1) (λ next. head_left next (number + 1) lines)
went all head number rest line lines taken left e t =
    left.goes ∙ ap (head_left head number) e ∙ head_step head number line lines ∙ ap (λ (x : Taken). follows x (number + 1) (λ (next : HeadSoFar). head_left next (number + 1) lines)) t

pub behind_more : (all : List (List ℕ)) (head : HeadSoFar) (number : ℕ) (rest : List (List ℕ)) (line : List ℕ) (lines : List (List ℕ)) → IsLeft all head number rest → rest ≡ line ∷ lines → drop (number + 1) all ≡ lines
behind_more all head number rest line lines left e = sym (drop-drop 1 number all) ∙ ap (drop 1) (left.behind ∙ e)

pub one_taken : (all : List (List ℕ)) (head next : HeadSoFar) (number : ℕ) (rest : List (List ℕ)) (line : List ℕ) (lines : List (List ℕ)) →
    IsLeft all head number rest → rest ≡ line ∷ lines → after_line head (number + 1) line ≡ GoesOn next → IsLeft all next (number + 1) lines
one_taken all head next number rest line lines left e t = record {
  goes = went all head number rest line lines (GoesOn next) left e t;
  behind = behind_more all head number rest line lines left e;
  counted = omega (arith, left.counted, ap (λ (ls : List (List ℕ)). length ls) e);
}

pub taken_within : (all : List (List ℕ)) (head : HeadSoFar) (number : ℕ) (rest : List (List ℕ)) (line : List ℕ) (lines : List (List ℕ)) → IsLeft all head number rest → rest ≡ line ∷ lines → number + 1 ≤ length all
taken_within all head number rest line lines left e = omega (arith, left.counted, ap (λ (ls : List (List ℕ)). length ls) e)

-- ---- the events begin

-- the script is what the lines that are left say of the world that the head opens
pub begun : (broke : Option ScriptFaultKind) (all : List (List ℕ)) (head next : HeadSoFar) (number : ℕ) (rest : List (List ℕ)) (line : List ℕ) (lines : List (List ℕ)) →
    IsLeft all head number rest → rest ≡ line ∷ lines → after_line head (number + 1) line ≡ EventsBegin next → script_from broke all ≡ begun_by (opening_read next.said) (number + 1) (events_from broke (number + 1) lines)
begun broke all head next number rest line lines left e t =
    let starts = went all head number rest line lines (EventsBegin next) left e t in
    ap (script_by broke all) starts ∙ ap (λ (ls : List (List ℕ)). begun_by (opening_read next.said) (number + 1) (events_from broke (number + 1) ls)) (behind_more all head number rest line lines left e)

-- ---- where the events begin

-- the events begin behind this line, if the head is whole
abbrev BeginsBehind : ℕ → Headed → Type 0
BeginsBehind before (Begins said number) = before + 1 ≤ number
BeginsBehind before (Ends section) = ⊤
BeginsBehind before (Faulty fault) = ⊤

behind_next : (before : ℕ) (headed : Headed) → BeginsBehind (before + 1) headed → BeginsBehind before headed
behind_next before (Begins said number) h = omega (arith, h)
behind_next before (Ends section) h = tt
behind_next before (Faulty fault) h = tt

behind_taken : (taken : Taken) (before : ℕ) (others : HeadSoFar → Headed) → ((next : HeadSoFar) → BeginsBehind (before + 1) (others next)) → BeginsBehind before (follows taken (before + 1) others)
behind_taken (GoesOn next) before others h = behind_next before (others next) (h next)
behind_taken (EventsBegin head) before others h = omega arith
behind_taken (HeadFault fault) before others h = tt

-- they begin in none of the lines that are taken
behind_left : (lines : List (List ℕ)) (head : HeadSoFar) (before : ℕ) → BeginsBehind before (head_left head before lines)
behind_left [] head before = subst (BeginsBehind before) (sym (head_ends_so head before)) tt
behind_left (line ∷ lines) head before =
    subst (BeginsBehind before) (sym (head_step head before line lines))
    (behind_taken (after_line head (before + 1) line) before (λ next. head_left next (before + 1) lines) (λ next. behind_left lines next (before + 1)))

pub begun_at : (read : Result Setup ScriptFault) (number : ℕ) (told : Told) → (begun_by read number told).events_at ≡ Some number
begun_at (Ok opening) number told = refl
begun_at (Err fault) number told = refl

ends_nowhere : (broke : Option ScriptFaultKind) (section : Option ℕ) (count : ℕ) → (head_ends broke section count).events_at ≡ None
ends_nowhere None section count = refl
ends_nowhere (Some kind) section count = refl

within_head : (broke : Option ScriptFaultKind) (all : List (List ℕ)) (before : ℕ) (headed : Headed) → BeginsBehind before headed → IsInHead (script_by broke all headed).events_at (before + 1)
within_head broke all before (Begins said number) h =
    subst (λ (at : Option ℕ). IsInHead at (before + 1)) (sym (begun_at (opening_read said) number (events_from broke number (drop number all)))) h
within_head broke all before (Ends section) h =
    subst (λ (at : Option ℕ). IsInHead at (before + 1)) (sym (ends_nowhere broke section (length all))) tt
within_head broke all before (Faulty fault) h = tt

-- the next line isn't behind that of `events`
pub is_in_head : (broke : Option ScriptFaultKind) (all : List (List ℕ)) (head : HeadSoFar) (number : ℕ) (rest : List (List ℕ)) → IsLeft all head number rest → IsInHead (script_from broke all).events_at (number + 1)
is_in_head broke all head number rest left =
    within_head broke all number (head_of (parts_of_lines all)) (subst (BeginsBehind number) (sym left.goes) (behind_left rest head number))

-- ---- the head ends

pub ended : (broke : Option ScriptFaultKind) (all : List (List ℕ)) (head : HeadSoFar) (number : ℕ) (rest : List (List ℕ)) → IsLeft all head number rest → rest ≡ [] → script_from broke all ≡ head_ends broke (first_open head.within) number
ended broke all head number rest left e =
    let count : length all ≡ number = omega (arith, left.counted, ap (λ (ls : List (List ℕ)). length ls) e) in
    ap (script_by broke all) (left.goes ∙ ap (head_left head number) e ∙ head_ends_so head number) ∙ ap (head_ends broke (first_open head.within)) count
