-- What a text of one line says, and what is answered to it.
use Rattle.std.proofs.Common.{◌≡◌, ◌≢◌, ℕ, ◌+◌, Bool, true, false, List, [], ◌∷◌, length, Option, Some, None, Result, Ok, Err, refl, sym, ap, ◌∙◌, subst, inl, inr, arith, true≢false, if◌then◌else◌}
use Rattle.am_names.specs.declared.errno.Errno.TheVariants as errors
use Rattle.am_machine.specs.{Event, Answer, Step}
use Rattle.am_machine.specs.declared.answer.Answer.TheVariants as answers
use Rattle.am_machine.specs.State.{State}
use Rattle.am_state.specs.{Obs}
use Rattle.std.proofs.lemmas.List.Splits.{length-slice_split}
use Rattle.am_lines.specs.{is_line_feed, words_of}
use Rattle.am_script.specs.{ScriptFault, ScriptFaultKind, LineAnswered, NoNext, Numbered, Told, are_skipped, events_from, fault_at, is_long, line_read, lines_of, only_fault, told_by}
use Rattle.am_script.specs.Events.{event_read}
use Rattle.am_script.specs.Fault.{kind_number}
use Rattle.am_script.specs.Script.{event_or_fault}
use Rattle.am_script.specs.declared.fault.ScriptFaultKind.TheVariants.{BadEvent, LongLine, NoMemory}
use Rattle.am_session.specs.Sessions.{event_said}

-- ---- what a line says

abbrev number_of : Result (Option Event) ScriptFaultKind → ℕ
number_of (Ok event) = 0
number_of (Err kind) = kind_number kind

not_no_memory : (long skipped : Bool) (event : Option Event) → (if long then Err LongLine else if skipped then Ok None else event_or_fault event) ≢ Err NoMemory
not_no_memory true skipped event e = absurd (omega (arith, ap number_of e))
not_no_memory false true event e = absurd (omega (arith, ap number_of e))
not_no_memory false false (Some event) e = absurd (omega (arith, ap number_of e))
not_no_memory false false None e = absurd (omega (arith, ap number_of e))

-- a line says an event, none or a fault, of which none is for want of memory
line_is_read : (line : List ℕ) → line_read line ≢ Err NoMemory
line_is_read line = not_no_memory (is_long line) (are_skipped (words_of line)) (event_read (words_of line))

-- ---- what is told of one line

-- all that one line tells which says this
abbrev alone : Result (Option Event) ScriptFaultKind → Told
alone said = told_by said 1 (only_fault None)

events_differ : (here : Numbered) (rows : List Numbered) → [] ≡ here ∷ rows → ⊥
events_differ here rows e = omega (arith, ap (λ (t : List Numbered). length t) e)

abbrev fault_is_there : Option ScriptFault → Bool
fault_is_there None = false
fault_is_there (Some fault) = true

-- nothing
alone_none : (s : State) (said : Result (Option Event) ScriptFaultKind) → alone said ≡ only_fault None → LineAnswered s said s (Ok None)
alone_none s (Ok None) e = refl
alone_none s (Ok (Some event)) e = absurd (events_differ _ _ (sym (ap (λ (t : Told). t.events) e)))
alone_none s (Err kind) e = absurd (true≢false (ap (λ (t : Told). fault_is_there t.fault) e))

abbrev first_event : Event → List Numbered → Event
first_event other [] = other
first_event other (here ∷ rows) = here.event

-- an event
alone_event : (s next : State) (said : Result (Option Event) ScriptFaultKind) (event : Event) (number : ℕ) (left : Told) (answer : Answer) (seen : List Obs) → alone said ≡ told_by (Ok (Some event)) number left → Step s event answer seen next → LineAnswered s said next (Ok (Some answer))
alone_event s next (Ok None) event number left answer seen e step = absurd (events_differ _ _ (ap (λ (t : Told). t.events) e))
alone_event s next (Ok (Some here)) event number left answer seen e step =
    (seen, subst (λ (t : Event). Step s t answer seen next) (sym (ap (λ (t : Told). first_event event t.events) e)) step)
alone_event s next (Err kind) event number left answer seen e step = absurd (events_differ _ _ (ap (λ (t : Told). t.events) e))

abbrev kind_in : ScriptFaultKind → Option ScriptFault → ScriptFaultKind
kind_in other None = other
kind_in other (Some fault) = fault.kind

-- a fault
alone_fault : (s : State) (said : Result (Option Event) ScriptFaultKind) (fault : ScriptFault) → NoNext (alone said) fault → fault.kind ≢ NoMemory → LineAnswered s said s (Err fault.kind)
alone_fault s said fault (inr room) other = absurd (other room.kind)
alone_fault s (Ok None) fault (inl e) other = absurd (true≢false (sym (ap (λ (t : Told). fault_is_there t.fault) e)))
alone_fault s (Ok (Some event)) fault (inl e) other = absurd (events_differ _ _ (sym (ap (λ (t : Told). t.events) e)))
alone_fault s (Err kind) fault (inl e) other = (refl, sym (ap (λ (t : Told). kind_in kind t.fault) e))

-- no memory for an event: it is refused, as a step refuses it
alone_refused : (s : State) (said : Result (Option Event) ScriptFaultKind) (fault : ScriptFault) → said ≢ Err NoMemory → NoNext (alone said) fault → fault.kind ≡ NoMemory → LineAnswered s said s (Ok (Some (answers.Refused errors.NoMemory)))
alone_refused s (Ok None) fault never (inl e) is = absurd (true≢false (sym (ap (λ (t : Told). fault_is_there t.fault) e)))
alone_refused s (Ok None) fault never (inr room) is = absurd (events_differ _ _ (ap (λ (t : Told). t.events) room.parted))
alone_refused s (Ok (Some event)) fault never h is = ([], inl (record { told = refl; nothing = refl; same = refl }))
alone_refused s (Err kind) fault never (inl e) is = absurd (never (ap Err (ap (λ (t : Told). kind_in kind t.fault) e ∙ is)))
alone_refused s (Err kind) fault never (inr room) is = absurd (events_differ _ _ (ap (λ (t : Told). t.events) room.parted))

-- ---- a text

abbrev told_in : List (List ℕ) → Told
told_in lines = events_from None 0 lines

pub asked_none : (s : State) (line : List ℕ) → lines_of line ≡ line ∷ [] → told_in (lines_of line) ≡ only_fault None → LineAnswered s (event_said (lines_of line)) s (Ok None)
asked_none s line one e =
    subst (λ (lines : List (List ℕ)). LineAnswered s (event_said lines) s (Ok None)) (sym one)
    (alone_none s (line_read line) (subst (λ (lines : List (List ℕ)). told_in lines ≡ only_fault None) one e))

pub asked_event : (s next : State) (line : List ℕ) (event : Event) (number : ℕ) (left : Told) (answer : Answer) (seen : List Obs) → lines_of line ≡ line ∷ [] → told_in (lines_of line) ≡ told_by (Ok (Some event)) number left → Step s event answer seen next → LineAnswered s (event_said (lines_of line)) next (Ok (Some answer))
asked_event s next line event number left answer seen one e step =
    subst (λ (lines : List (List ℕ)). LineAnswered s (event_said lines) next (Ok (Some answer))) (sym one)
    (alone_event s next (line_read line) event number left answer seen (subst (λ (lines : List (List ℕ)). told_in lines ≡ told_by (Ok (Some event)) number left) one e) step)

pub asked_fault : (s : State) (line : List ℕ) (fault : ScriptFault) → lines_of line ≡ line ∷ [] → NoNext (told_in (lines_of line)) fault → fault.kind ≢ NoMemory → LineAnswered s (event_said (lines_of line)) s (Err fault.kind)
asked_fault s line fault one h other =
    subst (λ (lines : List (List ℕ)). LineAnswered s (event_said lines) s (Err fault.kind)) (sym one)
    (alone_fault s (line_read line) fault (subst (λ (lines : List (List ℕ)). NoNext (told_in lines) fault) one h) other)

pub asked_refused : (s : State) (line : List ℕ) (fault : ScriptFault) → lines_of line ≡ line ∷ [] → NoNext (told_in (lines_of line)) fault → fault.kind ≡ NoMemory → LineAnswered s (event_said (lines_of line)) s (Ok (Some (answers.Refused errors.NoMemory)))
asked_refused s line fault one h is =
    subst (λ (lines : List (List ℕ)). LineAnswered s (event_said lines) s (Ok (Some (answers.Refused errors.NoMemory)))) (sym one)
    (alone_refused s (line_read line) fault (line_is_read line) (subst (λ (lines : List (List ℕ)). NoNext (told_in lines) fault) one h) is)

-- behind each line feed there is a line
lines_are : (text : List ℕ) → lines_of text ≢ []
lines_are text none = absurd (omega (arith, length-slice_split is_line_feed text, ap (λ (t : List (List ℕ)). length t) none))

many_said : (s : State) (line : List ℕ) (behind : List (List ℕ)) → behind ≢ [] → LineAnswered s (event_said (line ∷ behind)) s (Err BadEvent)
many_said s line [] some = absurd (some refl)
many_said s line (second ∷ behind) some = (refl, refl)

-- more lines than one say no event
pub asked_many : (s : State) (text line rest : List ℕ) → lines_of text ≡ line ∷ lines_of rest → LineAnswered s (event_said (lines_of text)) s (Err BadEvent)
asked_many s text line rest parted =
    subst (λ (lines : List (List ℕ)). LineAnswered s (event_said lines) s (Err BadEvent)) (sym parted)
    (many_said s line (lines_of rest) (lines_are rest))
