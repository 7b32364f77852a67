-- The events so far have come.
use Rattle.std.proofs.Common.{◌≡◌, ◌+◌, ℕ, Bool, false, cond, List, [], ◌∷◌, ◌++◌, length, count_by, Option, Some, None, Result, Ok, Err, IfOk, IfErr, OnOk, refl, sym, ap, ◌∙◌, subst, inl, inr, append_assoc}
use Rattle.std.proofs.KnownBytes.{Appends-nil}
use Rattle.std.proofs.lemmas.List.{map_push, append-nil, length-append}
use Rattle.am_machine.specs.{Event, Answer, Step, Run}
use Rattle.am_state.specs.{Obs}
use Rattle.am_machine.specs.State.{State}
use Rattle.am_script.specs.{ScriptFault, Summary, is_refused, NoNext, Numbered, Told, events_in, told_by, only_fault, behind}
use Rattle.am_script.specs.declared.fault.ScriptFaultKind.TheVariants.{NoMemory}
use Rattle.am_script.proofs.Answering.{run_more, count_more}
use Rattle.am_views.specs.{one_more}
use Rattle.am_mountinfo.specs.{IsWritten, EventsPlayed, NotPlayed, NotWritten, last_line, ran_out, WorldShown, ShowStops}

-- of all events, which stand behind the first line, these are left, and those before have come
pub record Playing (start : State) (first : ℕ) (all left : Told) (now : State) (summary : Summary) (line : ℕ) : Type 0 where
  pub done : List Numbered
  pub parted : all ≡ behind done left
  pub answers : List Answer
  pub run : Run start (events_in done) answers now
  pub lines : summary.lines ≡ length answers
  pub refused : summary.refused ≡ count_by is_refused answers
  pub room : count_by ran_out answers ≡ 0
  pub is_last : line ≡ last_line first done

pub playing_none : (start : State) (first : ℕ) (all : Told) → Playing start first all all start (record { lines = 0; refused = 0 }) first
playing_none start first all = record {
  done = [];
  parted = refl;
  answers = [];
  run = refl;
  lines = refl;
  refused = refl;
  room = refl;
  is_last = refl;
}

last_of_push : (line : ℕ) (done : List Numbered) (asked : Numbered) → asked.line ≡ last_line line (done ++ asked ∷ [])
last_of_push line [] asked = refl
last_of_push line (first ∷ done) asked = last_of_push first.line done asked

-- one more event has come
pub playing_more : (start : State) (first : ℕ) (all left more : Told) (now next : State) (summary : Summary) (before line : ℕ) (event : Event) (answer : Answer) (seen : List Obs) (refused : Bool) → left ≡ told_by (Ok (Some event)) line more → Playing start first all left now summary before → Step now event answer seen next → refused ≡ is_refused answer → ran_out answer ≡ false → Playing start first all more next (one_more summary refused) line
playing_more start first all left more now next summary before line event answer seen refused e h step test room =
    let asked : Numbered = record { line = line; event = event } in record {
      done = h.done ++ asked ∷ [];
      parted = h.parted ∙ ap (behind h.done) e ∙ ap (λ (rows : List Numbered). record more { events = rows }) (sym (append_assoc h.done (asked ∷ []) more.events));
      answers = h.answers ++ answer ∷ [];
      run = rw (map_push (λ (r : Numbered). r.event) h.done asked) (run_more start (events_in h.done) h.answers now event answer seen next h.run step);
      lines = rw (length-append h.answers (answer ∷ [])) (ap (λ (n : ℕ). n + 1) h.lines);
      refused = rw (count_more is_refused h.answers answer, test) (ap (λ (n : ℕ). n + cond (is_refused answer) 1 0) h.refused);
      room = rw (count_more ran_out h.answers answer, room, h.room) refl;
      is_last = last_of_push first h.done asked;
    }

-- no event is left
pub playing_ends : (start : State) (first : ℕ) (all left : Told) (now : State) (summary : Summary) (line : ℕ) → left ≡ only_fault None → Playing start first all left now summary line → EventsPlayed start all now summary
playing_ends start first all left now summary line none h =
    let parted : all ≡ behind h.done (only_fault None) = h.parted ∙ ap (behind h.done) none in record {
      no_fault = ap (λ (t : Told). t.fault) parted;
      answers = h.answers;
      run = rw (parted, append-nil h.done) h.run;
      lines = h.lines;
      refused = h.refused;
      room = h.room;
    }

pub last_ends : (start : State) (first : ℕ) (all left : Told) (now : State) (summary : Summary) (line : ℕ) → left ≡ only_fault None → Playing start first all left now summary line → line ≡ last_line first all.events
last_ends start first all left now summary line none h =
    subst (λ (t : List Numbered). line ≡ last_line first t)
    (sym (ap (λ (t : Told). t.events) (h.parted ∙ ap (behind h.done) none) ∙ append-nil h.done)) h.is_last

-- a fault comes first of what is left, or memory ran out for the event that does
pub playing_fails : (start : State) (first : ℕ) (all left : Told) (now : State) (summary : Summary) (line : ℕ) (fault : ScriptFault) → Playing start first all left now summary line → NoNext left fault → NotPlayed all fault
playing_fails start first all left now summary line fault h (inl e) =
    inl (ap (λ (t : Told). t.fault) (h.parted ∙ ap (behind h.done) e))
playing_fails start first all left now summary line fault h (inr none) = inr (record {
  kind = none.kind;
  done = h.done;
  here = none.here;
  others = none.others.events;
  parted = ap (λ (t : Told). t.events) h.parted ∙ ap (λ (t : Told). h.done ++ t.events) none.parted;
  line = none.line;
})

-- memory ran out for the event that comes first of what is left
pub playing_runs_out : (start : State) (first : ℕ) (all left more : Told) (now : State) (summary : Summary) (before line : ℕ) (event : Event) → Playing start first all left now summary before → left ≡ told_by (Ok (Some event)) line more → NotPlayed all (record { line = line; kind = NoMemory })
playing_runs_out start first all left more now summary before line event h e = inr (record {
  kind = refl;
  done = h.done;
  here = record { line = line; event = event };
  others = more.events;
  parted = ap (λ (t : Told). t.events) h.parted ∙ ap (λ (t : Told). h.done ++ t.events) e;
  line = refl;
})

-- the world behind the events is written
pub shown_by : (only : Option ℕ) (start last : State) (told : Told) (old new : Option (List ℕ)) (summary : Summary) (r : Result Summary ScriptFault) → EventsPlayed start told last summary → IfOk r (λ (s : Summary). s ≡ summary) → OnOk r (IsWritten only last old new) → IfOk r (WorldShown only start told old new)
shown_by only start last told old new summary (Err fault) played same written = tt
shown_by only start last told old new summary (Ok s) played same written = record {
  last = last;
  played = subst (λ (t : Summary). EventsPlayed start told last t) (sym same) played;
  written = written;
}

-- or isn't written to its end
pub stops_by : (only : Option ℕ) (start last : State) (first : ℕ) (told : Told) (old new : Option (List ℕ)) (summary : Summary) (line : ℕ) (r : Result Summary ScriptFault) → EventsPlayed start told last summary → line ≡ last_line first told.events → IfErr r (NotWritten only last line old new) → IfErr r (ShowStops only start first told old new)
stops_by only start last first told old new summary line (Ok s) played is_last stops = tt
stops_by only start last first told old new summary line (Err fault) played is_last stops = inr (record {
  last = last;
  summary = summary;
  played = played;
  stops = subst (λ (n : ℕ). NotWritten only last n old new fault) is_last stops;
})

-- not all events come
pub stops_before : (only : Option ℕ) (start : State) (first : ℕ) (told : Told) (old : Option (List ℕ)) (fault : ScriptFault) → NotPlayed told fault → ShowStops only start first told old old fault
stops_before only start first told old fault stops = inl (record { stops = stops; written = Appends-nil old })
