-- The events so far have come, and what is written of them is put out.
use Rattle.std.proofs.Common.{◌≡◌, ◌+◌, ℕ, ◌≤◌, Bool, true, false, cond, List, [], ◌∷◌, ◌++◌, length, count_by, Option, Some, None, Result, Ok, Err, IfOk, IfErr, refl, sym, ap, ◌∙◌, subst, inl, inr, append_assoc, arith}
use Rattle.std.specs.Io.KnownBytes.{Appends}
use Rattle.std.proofs.lemmas.List.{map_push, map-append, append-nil, length-append, length_push}
use Rattle.std.proofs.lemmas.List.Sums.{sum_by-append}
use Rattle.am_machine.specs.{Event, Answer, Setup, initial_state_of, Step, Run}
use Rattle.am_state.specs.{Obs}
use Rattle.am_machine.specs.State.{State}
use Rattle.am_script.specs.{ScriptFault, ScriptFaultKind, Output, Summary, is_refused, fault_at, lines_of, lines_in, is_long, Owed, bytes_of, IsLost, Stands, Settles, StopsAtEvent, HaltsIn, IsPlayed, Ending, with_next, script_behind, Form, Shown, SeenRun, asked_in, answers_in, written_of, owed_for, behind, EventsStand, Numbered, Told, events_in, events_from, line_read, told_by, only_fault, script_from, TurnDone, TurnStopped, Closes, counted}
use Rattle.am_script.specs.declared.fault.ScriptFaultKind.TheVariants.{LongLine, NoMemory, WriteFailed}
use Rattle.am_script.specs.Script.{Script}
use Rattle.am_script.proofs.Closing.{lost_by}
use Rattle.am_script.proofs.Lost.{owed_push, bytes_for, Within, within_some}

pub run_more : (old : State) (events : List Event) (answers : List Answer) (mid : State) (event : Event) (answer : Answer) (seen : List Obs) (new : State) → Run old events answers mid → Step mid event answer seen new → Run old (events ++ event ∷ []) (answers ++ answer ∷ []) new
run_more old [] [] mid event answer seen new h step = (new, seen, subst (λ (s : State). Step s event answer seen new) h step, refl)
run_more old [] (a ∷ answers) mid event answer seen new h step = absurd h
run_more old (e ∷ events) [] mid event answer seen new h step = absurd h
run_more old (e ∷ events) (a ∷ answers) mid event answer seen new h step =
    (h.0, h.1, h.2, run_more h.0 events answers mid event answer seen new h.3 step)

-- A run with what is seen is a run: that of its answers.
pub run_of_seen : (start : State) (rows : List Shown) (last : State) → SeenRun start rows last → Run start (events_in (asked_in rows)) (answers_in rows) last
run_of_seen start [] last h = h
run_of_seen start (row ∷ rows) last h = (h.0, row.seen, h.1, run_of_seen h.0 rows last h.2)

seen_more : (old : State) (rows : List Shown) (mid : State) (row : Shown) (new : State) → SeenRun old rows mid → Step mid row.asked.event row.answer row.seen new → SeenRun old (rows ++ row ∷ []) new
seen_more old [] mid row new h step = (new, subst (λ (s : State). Step s row.asked.event row.answer row.seen new) h step, refl)
seen_more old (first ∷ rows) mid row new h step = (h.0, h.1, seen_more h.0 rows mid row new h.2 step)

pub count_more : (p : Answer → Bool) (answers : List Answer) (answer : Answer) → count_by p (answers ++ answer ∷ []) ≡ count_by p answers + cond (p answer) 1 0
count_more p answers answer = rw (sum_by-append (λ (a : Answer). cond (p a) 1 0) answers (answer ∷ [])) (omega arith)

asked_push : (rows : List Shown) (row : Shown) → asked_in (rows ++ row ∷ []) ≡ asked_in rows ++ row.asked ∷ []
asked_push rows row = map_push (λ (r : Shown). r.asked) rows row

answers_push : (rows : List Shown) (row : Shown) → answers_in (rows ++ row ∷ []) ≡ answers_in rows ++ row.answer ∷ []
answers_push rows row = map_push (λ (r : Shown). r.answer) rows row

-- the script of one line more is the script in which that line comes next
pub script_next : (front : List (List ℕ)) (line : List ℕ) (ending : Ending) → script_behind (front ++ line ∷ []) ending ≡ script_behind front (with_next line ending)
script_next front line ending = ap (script_from ending.broke) (append_assoc front (line ∷ []) ending.lines)

-- these events are answered, and then the script goes on so
abbrev told_behind : Setup → ℕ → List Shown → Told → Script
told_behind opening at rows left = record { opening = Some opening; events_at = Some at; told = behind (asked_in rows) left }

told_more : (opening : Setup) (at : ℕ) (rows : List Shown) (row : Shown) (left : Told) → told_behind opening at rows (record left { events = row.asked ∷ left.events }) ≡ told_behind opening at (rows ++ row ∷ []) left
told_more opening at rows row left =
    let script : List Numbered → Script = λ events. record { opening = Some opening; events_at = Some at; told = record { events = events; fault = left.fault } } in
    ap script (sym (append_assoc (asked_in rows) (row.asked ∷ []) left.events)) ∙ ap (λ (asked : List Numbered). script (asked ++ left.events)) (sym (asked_push rows row))

said_more : (form : Form) → (s next : State) (number : ℕ) (summary : Summary) (kept keeps : Output) (front : List (List ℕ)) (line : List ℕ) (start mid new : Option (List ℕ)) (said : Result (Option Event) ScriptFaultKind) (played : Option Bool) (h : EventsStand form s number summary kept front start mid) →
    ((ending : Ending) → script_behind (front ++ line ∷ []) ending ≡ told_behind h.opening h.events_at h.rows (told_by said (number + 1) (events_from ending.broke (number + 1) ending.lines))) →
    TurnDone form s said next (number + 1) kept keeps mid new played → EventsStand form next (number + 1) (counted summary played) keeps (front ++ line ∷ []) start new
said_more form s next number summary kept keeps front line start mid new (Ok None) None h goes turn = record {
  counted = length_push front line ∙ ap (λ (n : ℕ). n + 1) h.counted;
  opening = h.opening;
  events_at = h.events_at;
  rows = h.rows;
  goes = goes;
  run = subst (λ (t : State). SeenRun (initial_state_of h.opening) h.rows t) (sym turn.same) h.run;
  stands = turn.settles (owed_for form h.rows) start h.stands;
  lines = h.lines;
  refused = h.refused;
}
said_more form s next number summary kept keeps front line start mid new (Ok None) (Some refused) h goes turn = absurd turn
said_more form s next number summary kept keeps front line start mid new (Ok (Some event)) None h goes turn = absurd turn
said_more form s next number summary kept keeps front line start mid new (Ok (Some event)) (Some refused) h goes turn =
    let asked : Numbered = record { line = number + 1; event = event } in
    let row : Shown = record { asked = asked; answer = turn.answer; seen = turn.seen } in record {
      counted = length_push front line ∙ ap (λ (n : ℕ). n + 1) h.counted;
      opening = h.opening;
      events_at = h.events_at;
      rows = h.rows ++ row ∷ [];
      goes = λ ending. goes ending ∙ told_more h.opening h.events_at h.rows row (events_from ending.broke (number + 1) ending.lines);
      run = seen_more (initial_state_of h.opening) h.rows s row next h.run turn.step;
      stands = subst (λ (t : List Owed). Stands keeps t start new) (sym (owed_push form h.rows row)) (turn.puts (owed_for form h.rows) start h.stands);
      lines = rw (length-append h.rows (row ∷ [])) (ap (λ (n : ℕ). n + 1) h.lines);
      refused = rw (answers_push h.rows row, count_more is_refused (answers_in h.rows) turn.answer, turn.test) (ap (λ (n : ℕ). n + cond (is_refused turn.answer) 1 0) h.refused);
    }
said_more form s next number summary kept keeps front line start mid new (Err kind) played h goes turn = absurd turn

-- one line more is played
pub events_more : (form : Form) → (s next : State) (number : ℕ) (summary : Summary) (kept keeps : Output) (front : List (List ℕ)) (line : List ℕ) (start mid new : Option (List ℕ)) (played : Option Bool) → EventsStand form s number summary kept front start mid →
    TurnDone form s (line_read line) next (number + 1) kept keeps mid new played → EventsStand form next (number + 1) (counted summary played) keeps (front ++ line ∷ []) start new
events_more form s next number summary kept keeps front line start mid new played h turn =
    said_more form s next number summary kept keeps front line start mid new (line_read line) played h (λ ending. script_next front line ending ∙ h.goes (with_next line ending)) turn

-- ---- the script stops

run_front : (done others : List Shown) (start last : State) → SeenRun start (done ++ others) last → (mid : State) × SeenRun start done mid
run_front [] others start last h = (start, refl)
run_front (row ∷ done) others start last h =
    let rest = run_front done others h.0 last h.2 in
    (rest.0, (h.0, h.1, rest.1))

lost_event : (form : Form) → (start : State) (all left : Told) (rows : List Shown) (line : ℕ) (front : List Owed) (first : Owed) (old new : Option (List ℕ)) (now : State) → all ≡ behind (asked_in rows) left → SeenRun start rows now → first.line ≡ line → Appends old new (bytes_of front) → Within form rows front first → StopsAtEvent form start all old new (fault_at line WriteFailed)
lost_event form start all left rows line front first old new now parted run is written w =
    let to_here = run_front (w.done ++ w.here ∷ []) w.others start now (subst (λ (t : List Shown). SeenRun start t now) w.parted run) in
    let asked : asked_in rows ≡ asked_in (w.done ++ w.here ∷ []) ++ asked_in w.others = ap asked_in w.parted ∙ map-append (λ (r : Shown). r.asked) (w.done ++ w.here ∷ []) w.others in
    record {
      loss = refl;
      done = w.done;
      here = w.here;
      others = asked_in w.others ++ left.events;
      parted = ap (λ (t : Told). t.events) parted ∙ ap (λ (t : List Numbered). t ++ left.events) asked ∙ append_assoc (asked_in (w.done ++ w.here ∷ [])) (asked_in w.others) left.events;
      line = sym is ∙ w.line_is;
      last = to_here.0;
      run = to_here.1;
      taken = w.taken;
      short = w.short;
      written = subst (λ (t : List ℕ). Appends old new t) w.bytes written;
    }

written_for : (form : Form) → (rows : List Shown) (old new : Option (List ℕ)) → Appends old new (bytes_of (owed_for form rows)) → Appends old new (written_of form rows)
written_for form rows old new h = subst (λ (t : List ℕ). Appends old new t) (bytes_for form rows) h

abbrev fault_or : ScriptFault → Result Summary ScriptFault → ScriptFault
fault_or other (Ok summary) = other
fault_or other (Err fault) = fault

abbrev pub failed : ScriptFault → Result Summary ScriptFault
failed fault = Err fault

pub same_fault : (one other : ScriptFault) → failed one ≡ failed other → one ≡ other
same_fault one other e = ap (fault_or one) e

-- an answer that was put out isn't taken whole
lost_halts : (form : Form) → (script : Script) (opening : Setup) (at : ℕ) (rows : List Shown) (left : Told) (state : State) (line last : ℕ) (start new : Option (List ℕ)) → script ≡ told_behind opening at rows left → SeenRun (initial_state_of opening) rows state → IsLost (owed_for form rows) line start new → HaltsIn form script last start new (fault_at line WriteFailed)
lost_halts form script opening at rows left state line last start new e run lost =
    subst (λ (s : Script). HaltsIn form s last start new (fault_at line WriteFailed)) (sym e) (record {
      stopped = inr (inr (inl (lost_event form (initial_state_of opening) (behind (asked_in rows) left) left rows line lost.front lost.first start new state refl run lost.line_is lost.written (within_some form rows lost.front lost.first lost.others lost.parts))));
      here = inl refl;
    })

-- a fault comes behind these events
fault_halts : (form : Form) → (script : Script) (opening : Setup) (at : ℕ) (rows : List Shown) (state : State) (fault : ScriptFault) (last : ℕ) (start new : Option (List ℕ)) → script ≡ told_behind opening at rows (only_fault (Some fault)) → SeenRun (initial_state_of opening) rows state → fault.line ≡ last → Appends start new (bytes_of (owed_for form rows)) → HaltsIn form script last start new fault
fault_halts form script opening at rows state fault last start new e run here written =
    subst (λ (s : Script). HaltsIn form s last start new fault) (sym e) (record {
      stopped = inr (inl (record {
        found = refl;
        rows = rows;
        asked = append-nil (asked_in rows);
        last = state;
        run = run;
        written = written_for form rows start new written;
      }));
      here = inr here;
    })

-- the same, where what is kept is written first
closes_so : (form : Form) → (script : Script) (opening : Setup) (at : ℕ) (rows : List Shown) (state : State) (keeps : Output) (told fault : ScriptFault) (last : ℕ) (start mid new : Option (List ℕ)) → script ≡ told_behind opening at rows (only_fault (Some told)) → SeenRun (initial_state_of opening) rows state → Stands keeps (owed_for form rows) start mid → told.line ≡ last → Closes keeps (Err told) mid new (Err fault) → HaltsIn form script last start new fault
closes_so form script opening at rows state keeps told fault last start mid new e run stands here closes =
    elim (closes (owed_for form rows) start stands) [
      | inl w ↦ subst (λ (f : ScriptFault). HaltsIn form script last start new f) (sym (same_fault fault told w.same)) (fault_halts form script opening at rows state told last start new e run here w.written)
      | inr w ↦ subst (λ (f : ScriptFault). HaltsIn form script last start new f) (sym (same_fault fault (fault_at w.line WriteFailed) w.told)) (lost_halts form script opening at rows (only_fault (Some told)) state w.line last start new e run w.lost)
    ]

-- there is no memory for the next event
room_halts : (form : Form) → (script : Script) (opening : Setup) (at : ℕ) (rows : List Shown) (here : Numbered) (left : Told) (state : State) (fault : ScriptFault) (last : ℕ) (start new : Option (List ℕ)) → form.ends ≡ true → fault.kind ≡ NoMemory → fault.line ≡ here.line → script ≡ told_behind opening at rows (record left { events = here ∷ left.events }) → SeenRun (initial_state_of opening) rows state → here.line ≡ last → Appends start new (bytes_of (owed_for form rows)) → HaltsIn form script last start new fault
room_halts form script opening at rows here left state fault last start new ends kind line e run is written =
    subst (λ (s : Script). HaltsIn form s last start new fault) (sym e) (record {
      stopped = inr (inr (inr (record {
        ends = ends;
        kind = kind;
        rows = rows;
        here = here;
        others = left.events;
        parted = refl;
        line = line;
        last = state;
        run = run;
        written = written_for form rows start new written;
      })));
      here = inr (line ∙ is);
    })

-- the same, where what is kept is written first
no_room_so : (form : Form) → (script : Script) (opening : Setup) (at : ℕ) (rows : List Shown) (here : Numbered) (left : Told) (state : State) (keeps : Output) (told fault : ScriptFault) (last : ℕ) (start mid new : Option (List ℕ)) → form.ends ≡ true → told.kind ≡ NoMemory → told.line ≡ here.line → script ≡ told_behind opening at rows (record left { events = here ∷ left.events }) → SeenRun (initial_state_of opening) rows state → Stands keeps (owed_for form rows) start mid → here.line ≡ last → Closes keeps (Err told) mid new (Err fault) → HaltsIn form script last start new fault
no_room_so form script opening at rows here left state keeps told fault last start mid new ends kind line e run stands is closes =
    elim (closes (owed_for form rows) start stands) [
      | inl w ↦ subst (λ (f : ScriptFault). HaltsIn form script last start new f) (sym (same_fault fault told w.same)) (room_halts form script opening at rows here left state told last start new ends kind line e run is w.written)
      | inr w ↦ subst (λ (f : ScriptFault). HaltsIn form script last start new f) (sym (same_fault fault (fault_at w.line WriteFailed) w.told)) (lost_halts form script opening at rows (record left { events = here ∷ left.events }) state w.line last start new e run w.lost)
    ]

said_stops : (form : Form) → (s next : State) (number : ℕ) (summary : Summary) (kept keeps : Output) (front : List (List ℕ)) (line : List ℕ) (start held mid new : Option (List ℕ)) (said : Result (Option Event) ScriptFaultKind) (kind : ScriptFaultKind) (fault : ScriptFault) (ending : Ending) (h : EventsStand form s number summary kept front start held) →
    script_behind front (with_next line ending) ≡ told_behind h.opening h.events_at h.rows (told_by said (number + 1) (events_from ending.broke (number + 1) ending.lines)) →
    TurnStopped form s said next kept keeps held mid kind → Closes keeps (Err (fault_at (number + 1) kind)) mid new (Err fault) → HaltsIn form (script_behind front (with_next line ending)) (length front + 1) start new fault
said_stops form s next number summary kept keeps front line start held mid new (Ok None) kind fault ending h goes turn closes = absurd turn
said_stops form s next number summary kept keeps front line start held mid new (Ok (Some event)) kind fault ending h goes turn closes =
    no_room_so form (script_behind front (with_next line ending)) h.opening h.events_at h.rows (record { line = number + 1; event = event }) (events_from ending.broke (number + 1) ending.lines) s keeps (fault_at (number + 1) kind) fault (length front + 1) start mid new
    turn.ends turn.told refl goes h.run (turn.idle.settles (owed_for form h.rows) start h.stands) (ap (λ (n : ℕ). n + 1) (sym h.counted)) closes
said_stops form s next number summary kept keeps front line start held mid new (Err said) kind fault ending h goes turn closes =
    closes_so form (script_behind front (with_next line ending)) h.opening h.events_at h.rows s keeps (fault_at (number + 1) kind) fault (length front + 1) start mid new
    (goes ∙ ap (λ (k : ScriptFaultKind). told_behind h.opening h.events_at h.rows (only_fault (Some (fault_at (number + 1) k)))) (sym turn.1))
    h.run (turn.0.settles (owed_for form h.rows) start h.stands) (ap (λ (n : ℕ). n + 1) (sym h.counted)) closes

-- the next line has a fault
pub events_stop : (form : Form) → (s next : State) (number : ℕ) (summary : Summary) (kept keeps : Output) (front : List (List ℕ)) (line : List ℕ) (start held mid new : Option (List ℕ)) (kind : ScriptFaultKind) (fault : ScriptFault) → EventsStand form s number summary kept front start held →
    TurnStopped form s (line_read line) next kept keeps held mid kind → Closes keeps (Err (fault_at (number + 1) kind)) mid new (Err fault) → (ending : Ending) → HaltsIn form (script_behind front (with_next line ending)) (length front + 1) start new fault
events_stop form s next number summary kept keeps front line start held mid new kind fault h turn closes ending =
    said_stops form s next number summary kept keeps front line start held mid new (line_read line) kind fault ending h (h.goes (with_next line ending)) turn closes

-- the next line is too long
pub events_long : (form : Form) → (s : State) (number : ℕ) (summary : Summary) (kept : Output) (front : List (List ℕ)) (line : List ℕ) (start held new : Option (List ℕ)) (fault : ScriptFault) → EventsStand form s number summary kept front start held → is_long line ≡ true →
    Closes kept (Err (fault_at (number + 1) LongLine)) held new (Err fault) → (ending : Ending) → HaltsIn form (script_behind front (with_next line ending)) (length front + 1) start new fault
events_long form s number summary kept front line start held new fault h long closes ending =
    let said : line_read line ≡ Err LongLine = rw long refl in
    let goes = h.goes (with_next line ending) ∙ ap (λ (r : Result (Option Event) ScriptFaultKind). told_behind h.opening h.events_at h.rows (told_by r (number + 1) (events_from ending.broke (number + 1) ending.lines))) said in
    said_stops form s s number summary kept kept front line start held held new (Err LongLine) LongLine fault ending h goes (record { same = refl; settles = λ all from stands. stands }, refl) closes

-- an answer isn't taken whole
pub events_lost : (form : Form) → (s : State) (number : ℕ) (summary : Summary) (output kept : Output) (front : List (List ℕ)) (line : ℕ) (start held now : Option (List ℕ)) → EventsStand form s number summary output front start held → Settles output kept held now → kept.lost ≡ Some line →
    (ending : Ending) (last : ℕ) → HaltsIn form (script_behind front ending) last start now (fault_at line WriteFailed)
events_lost form s number summary output kept front line start held now h settles e ending last =
    lost_halts form (script_behind front ending) h.opening h.events_at h.rows (events_from ending.broke number ending.lines) s line last start now (h.goes ending) h.run (lost_by kept.lost line _ (owed_for form h.rows) start now e (settles (owed_for form h.rows) start h.stands).owes)

-- what is kept is written
pub events_flush : (form : Form) → (s : State) (number : ℕ) (summary : Summary) (output kept : Output) (front : List (List ℕ)) (start held now : Option (List ℕ)) → EventsStand form s number summary output front start held → Settles output kept held now → EventsStand form s number summary kept front start now
events_flush form s number summary output kept front start held now h settles = record {
  counted = h.counted;
  opening = h.opening;
  events_at = h.events_at;
  rows = h.rows;
  goes = h.goes;
  run = h.run;
  stands = settles (owed_for form h.rows) start h.stands;
  lines = h.lines;
  refused = h.refused;
}

-- ---- no line follows

-- the script of these lines, behind which no others come
pub script_ends : (front : List (List ℕ)) (broke : Option ScriptFaultKind) → script_behind front (record { broke = broke; lines = [] }) ≡ script_from broke front
script_ends front broke = ap (script_from broke) (append-nil front)

-- how a script ends
abbrev pub EndsSo : Form → ℕ → Script → Option (List ℕ) → Option (List ℕ) → Result Summary ScriptFault → Type 0
EndsSo form count script old new (Ok summary) = IsPlayed form script old new summary
EndsSo form count script old new (Err fault) = HaltsIn form script count old new fault

pub ends_ok : (form : Form) → (count : ℕ) (script : Script) (old new : Option (List ℕ)) (r : Result Summary ScriptFault) → EndsSo form count script old new r → IfOk r (IsPlayed form script old new)
ends_ok form count script old new (Ok summary) h = h
ends_ok form count script old new (Err fault) h = tt

pub ends_err : (form : Form) → (count : ℕ) (script : Script) (old new : Option (List ℕ)) (r : Result Summary ScriptFault) → EndsSo form count script old new r → IfErr r (HaltsIn form script count old new)
ends_err form count script old new (Ok summary) h = tt
ends_err form count script old new (Err fault) h = h

-- reading came to the end
pub events_end : (form : Form) → (s : State) (number : ℕ) (summary : Summary) (output : Output) (front : List (List ℕ)) (count : ℕ) (start held new : Option (List ℕ)) (r : Result Summary ScriptFault) → EventsStand form s number summary output front start held →
    Closes output (Ok summary) held new r → EndsSo form count (script_from None front) start new r
events_end form s number summary output front count start held new r h closes =
    let ends : EndsSo form count (told_behind h.opening h.events_at h.rows (only_fault None)) start new r =
    elim (closes (owed_for form h.rows) start h.stands) [
      | inl w ↦ subst (λ (t : Result Summary ScriptFault). EndsSo form count (told_behind h.opening h.events_at h.rows (only_fault None)) start new t) (sym w.same) (record {
        no_fault = refl;
        rows = h.rows;
        asked = append-nil (asked_in h.rows);
        last = s;
        run = h.run;
        written = written_for form h.rows start new w.written;
        lines = h.lines;
        refused = h.refused;
      })
      | inr w ↦ subst (λ (t : Result Summary ScriptFault). EndsSo form count (told_behind h.opening h.events_at h.rows (only_fault None)) start new t) (sym w.told) (lost_halts form (told_behind h.opening h.events_at h.rows (only_fault None)) h.opening h.events_at h.rows (only_fault None) s w.line count start new refl h.run w.lost)
    ] in
    subst (λ (t : Script). EndsSo form count t start new r) (sym (h.goes (record { broke = None; lines = [] })) ∙ script_ends front None) ends

-- reading broke off
pub events_broke : (form : Form) → (s : State) (number : ℕ) (summary : Summary) (output : Output) (front : List (List ℕ)) (start held new : Option (List ℕ)) (kind : ScriptFaultKind) (r : Result Summary ScriptFault) → EventsStand form s number summary output front start held →
    Closes output (Err (fault_at number kind)) held new r → EndsSo form (length front) (script_from (Some kind) front) start new r
events_broke form s number summary output front start held new kind r h closes =
    let fault = fault_at number kind in
    let script = told_behind h.opening h.events_at h.rows (only_fault (Some fault)) in
    let ends : EndsSo form (length front) script start new r =
    elim (closes (owed_for form h.rows) start h.stands) [
      | inl w ↦ subst (λ (t : Result Summary ScriptFault). EndsSo form (length front) script start new t) (sym w.same) (fault_halts form script h.opening h.events_at h.rows s fault (length front) start new refl h.run (sym h.counted) w.written)
      | inr w ↦ subst (λ (t : Result Summary ScriptFault). EndsSo form (length front) script start new t) (sym w.told) (lost_halts form script h.opening h.events_at h.rows (only_fault (Some fault)) s w.line (length front) start new refl h.run w.lost)
    ] in
    subst (λ (t : Script). EndsSo form (length front) t start new r) (sym (h.goes (record { broke = Some kind; lines = [] })) ∙ script_ends front (Some kind)) ends

-- the first of the lines that are left is taken
pub events_step : (broke : Option ScriptFaultKind) (before : ℕ) (rest : Option (List ℕ)) (here line : List ℕ) (lines : List (List ℕ)) → rest ≡ Some here → lines_of here ≡ line ∷ lines → events_from broke before (lines_in rest) ≡ told_by (line_read line) (before + 1) (events_from broke (before + 1) lines)
events_step broke before rest here line lines e f =
    ap (λ (r : Option (List ℕ)). events_from broke before (lines_in r)) e ∙ ap (events_from broke before) f

pub counted_lines : (summary : Summary) (played : Option Bool) → (counted summary played).lines ≤ summary.lines + 1
counted_lines summary None = omega arith
counted_lines summary (Some refused) = omega arith

pub counted_refused : (summary : Summary) (played : Option Bool) → summary.refused ≤ summary.lines → (counted summary played).refused ≤ (counted summary played).lines
counted_refused summary None h = h
counted_refused summary (Some true) h = omega arith
counted_refused summary (Some false) h = omega arith
