-- A line of a head is played.
use Rattle.std.proofs.Common.{◌≡◌, ◌≤◌, ◌+◌, ℕ, true, List, [], ◌∷◌, ◌++◌, length, Option, Some, None, Result, Ok, Err, refl, sym, ap, subst, ◌∙◌, inl, inr, append_assoc, arith}
use Rattle.std.specs.Io.KnownBytes.{Appends}
use Rattle.std.proofs.lemmas.List.{length_push}
use Rattle.am_machine.specs.State.{State}
use Rattle.am_machine.specs.{Setup, setup_of, initial_state_of}
use Rattle.am_script.specs.{ScriptFault, ScriptFaultKind, Output, Summary, fault_at, IsLeft, HeadSoFar, HeadFault, GoesOn, EventsBegin, after_line, Form, first_open, is_long, opening_read, Owed, bytes_of, StandsBy, Settles, HaltsAt, HaltsIn, end_of_head, Ending, with_next, script_behind, HeadStands, EventsStand, PlaceStands, HeadTaken, HeadStops, place_after, Told, IsInHead, script_from, script_by, begun_by, events_from, head_ends, without_world, Closes}
use Rattle.am_script.specs.declared.fault.ScriptFaultKind.TheVariants.{LongLine, NoMemory}
use Rattle.am_world.specs.Capacity.{state_of}
use Rattle.am_world.specs.{WorldTable}
use Rattle.am_script.specs.Script.{Script}
use Rattle.am_script.proofs.Answering.{script_next, script_ends, EndsSo, same_fault}
use Rattle.am_script.proofs.Heads.{went, one_taken, begun, is_in_head, ended}

none_before : (front : List Owed) (first : Owed) (others : List Owed) → [] ≡ front ++ first ∷ others → ⊥
none_before [] first others e = absurd cc
none_before (o ∷ front) first others e = absurd cc

no_front : (front owed : List Owed) → [] ≡ front ++ owed → front ≡ []
no_front [] owed e = refl
no_front (o ∷ front) owed e = absurd cc

-- nothing was put out, so nothing was written
written_none : (lost : Option ℕ) (owed : List Owed) (old new : Option (List ℕ)) → StandsBy lost owed [] old new → Appends old new []
written_none (Some line) owed old new h = absurd (none_before h.front h.first h.others h.parts)
written_none None owed old new h = subst (λ (t : List Owed). Appends old new (bytes_of t)) (no_front h.front owed h.parts) h.written

nothing_lost : (lost : Option ℕ) (line : ℕ) (owed : List Owed) (old new : Option (List ℕ)) → lost ≡ Some line → StandsBy lost owed [] old new → ⊥
nothing_lost None line owed old new e h = absurd cc
nothing_lost (Some at) line owed old new e h = none_before h.front h.first h.others h.parts

-- the writer holds what it held at the start
pub nothing_written : (heading : HeadSoFar) (number : ℕ) (summary : Summary) (output : Output) (front : List (List ℕ)) (start held : Option (List ℕ)) → HeadStands heading number summary output front start held → Appends start held []
nothing_written heading number summary output front start held h = written_none output.lost _ start held h.empty.owes

-- the lines before this one are taken, and this is next
left_next : (heading : HeadSoFar) (number : ℕ) (summary : Summary) (output : Output) (front : List (List ℕ)) (line : List ℕ) (rest : List (List ℕ)) (start held : Option (List ℕ)) → HeadStands heading number summary output front start held → IsLeft (front ++ line ∷ rest) heading number (line ∷ rest)
left_next heading number summary output front line rest start held h = h.left (line ∷ rest)

one_more : (front : List (List ℕ)) (line : List ℕ) (number : ℕ) → length front ≡ number → length (front ++ line ∷ []) ≡ number + 1
one_more front line number e = length_push front line ∙ ap (λ (n : ℕ). n + 1) e

-- ---- the head goes on

pub head_more : (heading next : HeadSoFar) (number : ℕ) (summary : Summary) (output : Output) (front : List (List ℕ)) (line : List ℕ) (start held : Option (List ℕ)) → HeadStands heading number summary output front start held →
    after_line heading (number + 1) line ≡ GoesOn next → HeadStands next (number + 1) summary output (front ++ line ∷ []) start held
head_more heading next number summary output front line start held h taken = record {
  counted = one_more front line number h.counted;
  left = λ rest. subst (λ (all : List (List ℕ)). IsLeft all next (number + 1) rest) (sym (append_assoc front (line ∷ []) rest))
      (one_taken (front ++ line ∷ rest) heading next number (line ∷ rest) line rest (h.left (line ∷ rest)) refl taken);
  empty = h.empty;
  lines = h.lines;
  refused = h.refused;
}

-- the events begin
pub head_begins : (form : Form) → (heading whole : HeadSoFar) (world : State) (number : ℕ) (summary : Summary) (output : Output) (front : List (List ℕ)) (line : List ℕ) (start held : Option (List ℕ)) → HeadStands heading number summary output front start held →
    after_line heading (number + 1) line ≡ EventsBegin whole → opening_read whole.said ≡ Ok (setup_of world) → world ≡ initial_state_of (setup_of world) → EventsStand form world (number + 1) summary output (front ++ line ∷ []) start held
head_begins form heading whole world number summary output front line start held h taken opens begins = record {
  counted = one_more front line number h.counted;
  opening = setup_of world;
  events_at = number + 1;
  rows = [];
  goes = λ ending. script_next front line ending
      ∙ begun ending.broke (front ++ line ∷ ending.lines) heading whole number (line ∷ ending.lines) line ending.lines (h.left (line ∷ ending.lines)) refl taken
      ∙ ap (λ (r : Result Setup ScriptFault). begun_by r (number + 1) (events_from ending.broke (number + 1) ending.lines)) opens;
  run = begins;
  stands = h.empty;
  lines = h.lines;
  refused = h.refused;
}

-- what a line makes of a head
pub head_takes : (form : Form) → (heading next : HeadSoFar) (world : Option WorldTable) (number : ℕ) (summary : Summary) (output : Output) (front : List (List ℕ)) (line : List ℕ) (start held : Option (List ℕ)) → HeadStands heading number summary output front start held →
    HeadTaken heading (number + 1) line next world → PlaceStands form (place_after next world) (number + 1) summary output (front ++ line ∷ []) start held
head_takes form heading next None number summary output front line start held h taken = head_more heading next number summary output front line start held h taken
head_takes form heading next (Some world) number summary output front line start held h taken =
    head_begins form heading taken.0 (state_of world) number summary output front line start held h taken.1 taken.2 taken.3

-- ---- the head stops

faulty : (form : Form) → (script : Script) (fault : ScriptFault) (last : ℕ) (old new : Option (List ℕ)) → script ≡ without_world (Some fault) → Appends old new [] → HaltsIn form script last old new fault
faulty form script fault last old new e none =
    subst (λ (s : Script). HaltsIn form s last old new fault) (sym e) (record { stopped = inr (record { found = refl; written = none }); here = tt })

-- the head is whole, and one of its maps has this fault
not_begun : (form : Form) → (script : Script) (number : ℕ) (told : Told) (fault : ScriptFault) (last : ℕ) (old new : Option (List ℕ)) → script ≡ begun_by (Err fault) number told → Appends old new [] → HaltsIn form script last old new fault
not_begun form script number told fault last old new e none =
    subst (λ (s : Script). HaltsIn form s last old new fault) (sym e) (record { stopped = inr (record { found = refl; written = none }); here = tt })

here_at : (opening : Option Setup) (fault : ScriptFault) (last : ℕ) → fault.line ≡ last → HaltsAt opening fault last
here_at None fault last e = tt
here_at (Some opening) fault last e = inr e

ran_out : (form : Form) → (script : Script) (number last : ℕ) (fault : ScriptFault) (old new : Option (List ℕ)) → fault ≡ fault_at number NoMemory → 1 ≤ number → number ≡ last → IsInHead script.events_at number → Appends old new [] → HaltsIn form script last old new fault
ran_out form script number last fault old new e first same within none =
    let line : fault.line ≡ number = ap (λ (f : ScriptFault). f.line) e in
    record {
      stopped = inl (record {
        kind = ap (λ (f : ScriptFault). f.kind) e;
        first = omega (arith, line, first);
        line = omega (arith, line, same);
        head = subst (IsInHead script.events_at) (sym line) within;
        written = none;
      });
      here = here_at script.opening fault last (line ∙ same);
    }

pub head_stops : (form : Form) → (heading : HeadSoFar) (number : ℕ) (summary : Summary) (output : Output) (front : List (List ℕ)) (line : List ℕ) (start held : Option (List ℕ)) (fault : ScriptFault) → HeadStands heading number summary output front start held →
    HeadStops heading (number + 1) line fault → (ending : Ending) → HaltsIn form (script_behind front (with_next line ending)) (length front + 1) start held fault
head_stops form heading number summary output front line start held fault h (inl (inl stops)) ending =
    faulty form (script_behind front (with_next line ending)) fault (length front + 1) start held
    (ap (script_by ending.broke (front ++ line ∷ ending.lines)) (went (front ++ line ∷ ending.lines) heading number (line ∷ ending.lines) line ending.lines (HeadFault fault) (h.left (line ∷ ending.lines)) refl stops))
    (nothing_written heading number summary output front start held h)
head_stops form heading number summary output front line start held fault h (inl (inr none)) ending =
    ran_out form (script_behind front (with_next line ending)) (number + 1) (length front + 1) fault start held none (omega arith) (ap (λ (n : ℕ). n + 1) (sym h.counted)) (is_in_head ending.broke (front ++ line ∷ ending.lines) heading number (line ∷ ending.lines) (h.left (line ∷ ending.lines))) (nothing_written heading number summary output front start held h)
head_stops form heading number summary output front line start held fault h (inr (whole, ends, inl fails)) ending =
    not_begun form (script_behind front (with_next line ending)) (number + 1) (events_from ending.broke (number + 1) ending.lines) fault (length front + 1) start held
    (begun ending.broke (front ++ line ∷ ending.lines) heading whole number (line ∷ ending.lines) line ending.lines (h.left (line ∷ ending.lines)) refl ends
    ∙ ap (λ (r : Result Setup ScriptFault). begun_by r (number + 1) (events_from ending.broke (number + 1) ending.lines)) fails)
    (nothing_written heading number summary output front start held h)
head_stops form heading number summary output front line start held fault h (inr (whole, ends, inr none)) ending =
    ran_out form (script_behind front (with_next line ending)) (number + 1) (length front + 1) fault start held none (omega arith) (ap (λ (n : ℕ). n + 1) (sym h.counted)) (is_in_head ending.broke (front ++ line ∷ ending.lines) heading number (line ∷ ending.lines) (h.left (line ∷ ending.lines))) (nothing_written heading number summary output front start held h)

-- the next line is too long
pub head_long : (form : Form) → (heading : HeadSoFar) (number : ℕ) (summary : Summary) (output : Output) (front : List (List ℕ)) (line : List ℕ) (start held new : Option (List ℕ)) (fault : ScriptFault) → HeadStands heading number summary output front start held → is_long line ≡ true →
    Closes output (Err (fault_at (number + 1) LongLine)) held new (Err fault) → (ending : Ending) → HaltsIn form (script_behind front (with_next line ending)) (length front + 1) start new fault
head_long form heading number summary output front line start held new fault h long closes ending =
    let told = fault_at (number + 1) LongLine in
    let stops : after_line heading (number + 1) line ≡ HeadFault told = rw long refl in
    let script = ap (script_by ending.broke (front ++ line ∷ ending.lines)) (went (front ++ line ∷ ending.lines) heading number (line ∷ ending.lines) line ending.lines (HeadFault told) (h.left (line ∷ ending.lines)) refl stops) in
    elim (closes [] start h.empty) [
      | inl w ↦ subst (λ (f : ScriptFault). HaltsIn form (script_behind front (with_next line ending)) (length front + 1) start new f) (sym (same_fault fault told w.same)) (faulty form (script_behind front (with_next line ending)) told (length front + 1) start new script w.written)
      | inr w ↦ absurd (none_before w.lost.front w.lost.first w.lost.others w.lost.parts)
    ]

-- ---- no answer is kept

pub head_flush : (heading : HeadSoFar) (number : ℕ) (summary : Summary) (output kept : Output) (front : List (List ℕ)) (start held now : Option (List ℕ)) → HeadStands heading number summary output front start held → Settles output kept held now → HeadStands heading number summary kept front start now
head_flush heading number summary output kept front start held now h settles = record {
  counted = h.counted;
  left = h.left;
  empty = settles [] start h.empty;
  lines = h.lines;
  refused = h.refused;
}

pub head_loses_none : (heading : HeadSoFar) (number : ℕ) (summary : Summary) (output kept : Output) (front : List (List ℕ)) (line : ℕ) (start held now : Option (List ℕ)) → HeadStands heading number summary output front start held → Settles output kept held now → kept.lost ≡ Some line → ⊥
head_loses_none heading number summary output kept front line start held now h settles e = nothing_lost kept.lost line _ start now e (settles [] start h.empty).owes

-- ---- no line follows

ends_so : (form : Form) → (count : ℕ) (broke : Option ScriptFaultKind) (section : Option ℕ) (number : ℕ) (old new : Option (List ℕ)) → Appends old new [] → EndsSo form count (head_ends broke section number) old new (end_of_head broke section number)
ends_so form count None None number old new none = record { no_fault = refl; written = none; lines = refl; refused = refl }
ends_so form count None (Some first) number old new none = record { stopped = inr (record { found = refl; written = none }); here = tt }
ends_so form count (Some kind) section number old new none = record { stopped = inr (record { found = refl; written = none }); here = tt }

pub head_ends_as : (form : Form) → (heading : HeadSoFar) (number : ℕ) (summary : Summary) (output : Output) (front : List (List ℕ)) (count : ℕ) (start held : Option (List ℕ)) (broke : Option ScriptFaultKind) (r : Result Summary ScriptFault) → HeadStands heading number summary output front start held →
    r ≡ end_of_head broke (first_open heading.within) number → EndsSo form count (script_from broke front) start held r
head_ends_as form heading number summary output front count start held broke r h is =
    let script : script_from broke (front ++ []) ≡ head_ends broke (first_open heading.within) number = ended broke (front ++ []) heading number [] (h.left []) refl in
    subst (λ (t : Result Summary ScriptFault). EndsSo form count (script_from broke front) start held t) (sym is)
    (subst (λ (s : Script). EndsSo form count s start held (end_of_head broke (first_open heading.within) number)) (sym script ∙ script_ends front broke)
    (ends_so form count broke (first_open heading.within) number start held (nothing_written heading number summary output front start held h)))
