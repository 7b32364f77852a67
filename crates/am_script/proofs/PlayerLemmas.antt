-- A script that is played line by line, in its head and behind it.
use Rattle.std.proofs.Common.{◌≡◌, ◌+◌, ℕ, Bool, true, List, [], ◌∷◌, ◌++◌, length, Option, Some, None, Result, Ok, Err, IfOk, IfErr, OnOk, refl, sym, subst}
use Rattle.am_script.specs.{ScriptFault, ScriptFaultKind, Output, Summary, Place, Player, fault_at, HeadSoFar, no_lines, first_open, IsLeft, is_long, Settles, HaltsIn, end_of_head, Ending, with_next, script_behind, HeadStands, EventsStand, PlaceStands, PlayerStands, Form, TakesInHead, StopsInHead, EndsPlayed, EndsStopped, line_read, script_from, TurnDone, TurnStopped, Closes, counted}
use Rattle.am_script.specs.declared.fault.ScriptFaultKind.TheVariants.{LongLine, WriteFailed}
use Rattle.am_script.specs.declared.player.Place.TheVariants as places
use Rattle.am_script.proofs.Answering.{EndsSo, events_more, events_stop, events_long, events_lost, events_flush, events_end, events_broke}
use Rattle.am_script.proofs.HeadPlaying.{head_takes, head_stops, head_long, head_flush, head_loses_none, head_ends_as}
use Rattle.am_script.proofs.Heads.{none_taken}
use Rattle.am_script.proofs.OwedLemmas.{stands_new}
use Rattle.am_world.specs.Capacity.{state_of}
use Rattle.am_world.specs.{WorldTable}

-- nothing is taken yet
pub new_stands : (heading : HeadSoFar) (output : Output) (start : Option (List ℕ)) → heading ≡ no_lines → output.bytes.items ≡ [] → output.marks.items ≡ [] → output.lost ≡ None → HeadStands heading 0 (record { lines = 0; refused = 0 }) output [] start start
new_stands heading output start e f g k = record {
  counted = refl;
  left = λ rest. subst (λ (h : HeadSoFar). IsLeft rest h 0 rest) (sym e) (none_taken rest);
  empty = stands_new output.bytes.items output.marks.items output.line output.lost start f g k;
  lines = refl;
  refused = refl;
}

-- ---- one line more

pub on_ok : {T E : Type 0} (r : Result T E) (P Q : Type 0) → (P → Q) → OnOk r P → OnOk r Q
on_ok (Ok value) P Q f h = f h
on_ok (Err e) P Q f h = tt

pub if_err : {T E : Type 0} (r : Result T E) (P Q : E → Type 0) → ((e : E) → P e → Q e) → IfErr r P → IfErr r Q
if_err (Ok value) P Q f h = tt
if_err (Err e) P Q f h = f e h

pub head_line_taken : (form : Form) → (place next : Place) (heading : HeadSoFar) (number : ℕ) (summary : Summary) (output : Output) (front : List (List ℕ)) (line : List ℕ) (start held : Option (List ℕ)) → place ≡ places.Head heading →
    TakesInHead place (number + 1) line next → PlaceStands form place number summary output front start held → PlaceStands form next (number + 1) summary output (front ++ line ∷ []) start held
head_line_taken form place next heading number summary output front line start held e taken h =
    let t = subst (λ (p : Place). TakesInHead p (number + 1) line next) e taken in
    subst (λ (p : Place). PlaceStands form p (number + 1) summary output (front ++ line ∷ []) start held) (sym t.3)
    (head_takes form heading t.0 t.1 number summary output front line start held (subst (λ (p : Place). PlaceStands form p number summary output front start held) e h) t.2)

pub head_line_stops : (form : Form) → (place : Place) (heading : HeadSoFar) (number : ℕ) (summary : Summary) (output : Output) (front : List (List ℕ)) (line : List ℕ) (start held : Option (List ℕ)) (fault : ScriptFault) → place ≡ places.Head heading →
    StopsInHead place (number + 1) line fault → PlaceStands form place number summary output front start held → (ending : Ending) → HaltsIn form (script_behind front (with_next line ending)) (length front + 1) start held fault
head_line_stops form place heading number summary output front line start held fault e stops h =
    head_stops form heading number summary output front line start held fault (subst (λ (p : Place). PlaceStands form p number summary output front start held) e h) (subst (λ (p : Place). StopsInHead p (number + 1) line fault) e stops)

pub event_line_taken : (form : Form) → (place : Place) (world next : WorldTable) (number : ℕ) (summary : Summary) (kept keeps : Output) (front : List (List ℕ)) (line : List ℕ) (start held holds : Option (List ℕ)) (played : Option Bool) → place ≡ places.Events world →
    TurnDone form (state_of world) (line_read line) (state_of next) (number + 1) kept keeps held holds played → PlaceStands form place number summary kept front start held → EventsStand form (state_of next) (number + 1) (counted summary played) keeps (front ++ line ∷ []) start holds
event_line_taken form place world next number summary kept keeps front line start held holds played e turn h =
    events_more form (state_of world) (state_of next) number summary kept keeps front line start held holds played (subst (λ (p : Place). PlaceStands form p number summary kept front start held) e h) turn

pub event_line_stops : (form : Form) → (place : Place) (world next : WorldTable) (number : ℕ) (summary : Summary) (kept keeps : Output) (front : List (List ℕ)) (line : List ℕ) (start held mid holds : Option (List ℕ)) (kind : ScriptFaultKind) (fault : ScriptFault) → place ≡ places.Events world →
    TurnStopped form (state_of world) (line_read line) (state_of next) kept keeps held mid kind → Closes keeps (Err (fault_at (number + 1) kind)) mid holds (Err fault) → PlaceStands form place number summary kept front start held → (ending : Ending) → HaltsIn form (script_behind front (with_next line ending)) (length front + 1) start holds fault
event_line_stops form place world next number summary kept keeps front line start held mid holds kind fault e turn closes h =
    events_stop form (state_of world) (state_of next) number summary kept keeps front line start held mid holds kind fault (subst (λ (p : Place). PlaceStands form p number summary kept front start held) e h) turn closes

pub long_stops : (form : Form) → (place : Place) (number : ℕ) (summary : Summary) (output : Output) (front : List (List ℕ)) (line : List ℕ) (start held holds : Option (List ℕ)) (fault : ScriptFault) → Closes output (Err (fault_at (number + 1) LongLine)) held holds (Err fault) → is_long line ≡ true →
    PlaceStands form place number summary output front start held → (ending : Ending) → HaltsIn form (script_behind front (with_next line ending)) (length front + 1) start holds fault
long_stops form (places.Head heading) number summary output front line start held holds fault closes long h = head_long form heading number summary output front line start held holds fault h long closes
long_stops form (places.Events world) number summary output front line start held holds fault closes long h = events_long form (state_of world) number summary output front line start held holds fault h long closes

-- ---- answers are written

pub flush_stands : (form : Form) → (place : Place) (number : ℕ) (summary : Summary) (output kept : Output) (front : List (List ℕ)) (start held holds : Option (List ℕ)) → Settles output kept held holds → PlaceStands form place number summary output front start held → PlaceStands form place number summary kept front start holds
flush_stands form (places.Head heading) number summary output kept front start held holds settles h = head_flush heading number summary output kept front start held holds h settles
flush_stands form (places.Events world) number summary output kept front start held holds settles h = events_flush form (state_of world) number summary output kept front start held holds h settles

pub flush_loses : (form : Form) → (place : Place) (number : ℕ) (summary : Summary) (output kept : Output) (front : List (List ℕ)) (line : ℕ) (start held holds : Option (List ℕ)) → Settles output kept held holds → kept.lost ≡ Some line → PlaceStands form place number summary output front start held →
    (ending : Ending) (last : ℕ) → HaltsIn form (script_behind front ending) last start holds (fault_at line WriteFailed)
flush_loses form (places.Head heading) number summary output kept front line start held holds settles e h ending last = absurd (head_loses_none heading number summary output kept front line start held holds h settles e)
flush_loses form (places.Events world) number summary output kept front line start held holds settles e h ending last = events_lost form (state_of world) number summary output kept front line start held holds h settles e ending last

-- ---- no line follows

pub head_is_ended : (form : Form) → (place : Place) (heading : HeadSoFar) (number : ℕ) (summary : Summary) (output : Output) (front : List (List ℕ)) (start held : Option (List ℕ)) (broke : Option ScriptFaultKind) (r : Result Summary ScriptFault) → place ≡ places.Head heading →
    r ≡ end_of_head broke (first_open heading.within) number → PlaceStands form place number summary output front start held → EndsSo form (length front) (script_from broke front) start held r
head_is_ended form place heading number summary output front start held broke r e is h =
    head_ends_as form heading number summary output front (length front) start held broke r (subst (λ (p : Place). PlaceStands form p number summary output front start held) e h) is

pub events_are_ended : (form : Form) → (place : Place) (world : WorldTable) (number : ℕ) (summary : Summary) (output : Output) (front : List (List ℕ)) (start held holds : Option (List ℕ)) (r : Result Summary ScriptFault) → place ≡ places.Events world →
    Closes output (Ok summary) held holds r → PlaceStands form place number summary output front start held → EndsSo form (length front) (script_from None front) start holds r
events_are_ended form place world number summary output front start held holds r e closes h =
    events_end form (state_of world) number summary output front (length front) start held holds r (subst (λ (p : Place). PlaceStands form p number summary output front start held) e h) closes

pub events_are_broken : (form : Form) → (place : Place) (world : WorldTable) (number : ℕ) (summary : Summary) (output : Output) (front : List (List ℕ)) (start held holds : Option (List ℕ)) (kind : ScriptFaultKind) (r : Result Summary ScriptFault) → place ≡ places.Events world →
    Closes output (Err (fault_at number kind)) held holds r → PlaceStands form place number summary output front start held → EndsSo form (length front) (script_from (Some kind) front) start holds r
events_are_broken form place world number summary output front start held holds kind r e closes h =
    events_broke form (state_of world) number summary output front start held holds kind r (subst (λ (p : Place). PlaceStands form p number summary output front start held) e h) closes

pub end_ok : (player : Player) (broke : Option ScriptFaultKind) (held holds : Option (List ℕ)) (r : Result Summary ScriptFault) → ((form : Form) → (front : List (List ℕ)) → (start : Option (List ℕ)) → PlayerStands form player front start held → EndsSo form (length front) (script_from broke front) start holds r) → IfOk r (EndsPlayed player broke held holds)
end_ok player broke held holds (Ok summary) ends = ends
end_ok player broke held holds (Err fault) ends = tt

pub end_err : (player : Player) (broke : Option ScriptFaultKind) (held holds : Option (List ℕ)) (r : Result Summary ScriptFault) → ((form : Form) → (front : List (List ℕ)) → (start : Option (List ℕ)) → PlayerStands form player front start held → EndsSo form (length front) (script_from broke front) start holds r) → IfErr r (EndsStopped player broke held holds)
end_err player broke held holds (Ok summary) ends = tt
end_err player broke held holds (Err fault) ends = ends
