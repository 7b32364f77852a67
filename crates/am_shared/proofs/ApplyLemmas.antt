-- One event more.
use Rattle.std.proofs.Common.{◌≡◌, ℕ, ◌<◌, ◌≤◌, List, [], ◌∷◌, ◌++◌, length, length-append, drop}
use Rattle.std.proofs.Common.{◌+◌, Bool, true, false, refl, sym, ap, ◌∙◌, subst, arith, append_assoc, inl, inr, ⊎_elim, drop-drop}
use Rattle.std.proofs.Math.Seq.{drop-append_seam}
use Rattle.am_state.specs.{Obs}
use Rattle.am_machine.specs.{Event, Answer, Setup, setup_of, initial_state_of, Step, Run, IsLegal, Entry, entry, events_of, answers_of}
use Rattle.am_machine.specs.State.{State}
use Rattle.am_machine.proofs.Consistent.{step_lawful}
use Rattle.am_world.specs.Capacity.{state_of}
use Rattle.am_world.specs.{WorldTable}
use Rattle.am_world.proofs.TableLemmas.{state_is}
use Rattle.am_pipe.specs.{IsFull, Note, Putter}
use Rattle.am_shared.specs.{all_taken, notes_of, handed_before, keeps_events, keeps_seen, IsFlushed, IsFlushedSince, IsKept, IsShared, IsSharedFrom, Applies, Keep}
use Rattle.am_shared.specs.Sharing.{Sharing}
use Rattle.am_machine.proofs.Histories.{legal_more}
use Rattle.am_shared.proofs.NoteLemmas.{notes_append, notes_count}

-- a step of the world with this answer
abbrev pub Stepped : WorldTable → Event → Answer → WorldTable → Type 0
Stepped s event answer t = (seen : List Obs) × Step (state_of s) event answer seen (state_of t)

-- what was seen of it is what came to the trace
pub trace_grown_by : (s t : WorldTable) (event : Event) (answer : Answer) (step : Stepped s event answer t)
    → t.trace ≡ s.trace ++ step.0
trace_grown_by s t event answer step =
    sym (ap (λ (x : State). x.trace) (state_is t))
    ∙ (step_lawful (state_of s) event answer step.0 (state_of t) step.1).trace
    ∙ ap (λ (x : State). x.trace ++ step.0) (state_is s)

pub trace_grows : (s t : WorldTable) (event : Event) (answer : Answer) → Stepped s event answer t
    → length s.trace ≤ length t.trace
trace_grows s t event answer step =
    omega (arith, ap length (trace_grown_by s t event answer step), length-append s.trace step.0)

pub seen_of : (s t : WorldTable) (event : Event) (answer : Answer) (step : Stepped s event answer t)
    → drop (length s.trace) t.trace ≡ step.0
seen_of s t event answer step =
    ap (drop (length s.trace)) (trace_grown_by s t event answer step) ∙ drop-append_seam s.trace step.0

-- one note at most
pub one_note_at_most : (s t : WorldTable) (event : Event) (answer : Answer) → Stepped s event answer t
    → length (notes_of (drop (length s.trace) t.trace)) ≤ 1
one_note_at_most s t event answer step =
    omega (
      arith,
      ap (λ (l : List Obs). length (notes_of l)) (seen_of s t event answer step),
      notes_count step.0,
      (step_lawful (state_of s) event answer step.0 (state_of t) step.1).once,
    )

-- the history stays legal
pub kept_legal : (s t : WorldTable) (event : Event) (answer : Answer) (history later : List Entry)
    → Stepped s event answer t → later ≡ history ++ entry event answer ∷ []
    → IsLegal history (state_of s) → IsLegal later (state_of t)
kept_legal s t event answer history later step is legal =
    subst (λ (l : List Entry). IsLegal l (state_of t)) (sym is)
    (legal_more history (state_of s) event answer (state_of t) legal step)

-- and the notes are those of the trace
pub kept_notes : (s t : WorldTable) (event : Event) (answer : Answer)
    (sent unsent collected put left : List Note) → Stepped s event answer t
    → collected ≡ unsent ++ notes_of (drop (length s.trace) t.trace)
    → put ++ left ≡ sent ++ collected → sent ++ unsent ≡ notes_of s.trace
    → put ++ left ≡ notes_of t.trace
kept_notes s t event answer sent unsent collected put left step all flushed notes =
    let more = notes_of step.0 in
    flushed ∙ ap (λ l. sent ++ l) (all ∙ ap (λ l. unsent ++ notes_of l) (seen_of s t event answer step))
    ∙ sym (append_assoc sent unsent more) ∙ ap (λ l. l ++ more) notes
    ∙ sym (notes_append s.trace step.0) ∙ ap notes_of (sym (trace_grown_by s t event answer step))

pub flushed_now : (looks : ℕ) (put : Putter) (unsent : List Note) → IsFlushedSince looks put unsent
    → IsFlushed put unsent
flushed_now looks put unsent = ⊎_elim (λ none. inl none) (λ (full : (looks < put.looks) × IsFull put). inr full.1)

-- a step of the world from which something of its trace was handed on before
pub stepped_from : (s gone t : WorldTable) (event : Event) (answer : Answer) → state_of gone ≡ state_of s
    → Stepped gone event answer t → Stepped s event answer t
stepped_from s gone t event answer same step =
    subst (λ (x : State). (seen : List Obs) × Step x event answer seen (state_of t)) same step

-- what the world lends behind as much as it lent before the step is what was seen of it
pub seen_behind : (s gone t : WorldTable) (before behind : List Obs) → gone.trace ≡ s.trace
    → gone.handed + length before ≡ length gone.trace → t.handed ≡ gone.handed → behind ≡ drop t.handed t.trace
    → drop (length before) behind ≡ drop (length s.trace) t.trace
seen_behind s gone t before behind same count kept lent =
    ap (drop (length before)) lent ∙ drop-drop (length before) t.handed t.trace
    ∙ ap (λ (n : ℕ). drop n t.trace) (omega (arith, count, kept, ap length same))

-- as much there is
pub lends_no_less : (s gone t : WorldTable) (event : Event) (answer : Answer) (before behind : List Obs)
    → Stepped s event answer t → gone.trace ≡ s.trace → gone.handed + length before ≡ length gone.trace
    → t.handed ≡ gone.handed → t.handed + length behind ≡ length t.trace → length before ≤ length behind
lends_no_less s gone t event answer before behind step same count kept all =
    omega (arith, count, kept, all, ap length same, trace_grows s t event answer step)

-- what was handed on before stays, where all is kept
pub none_handed : (keep : Keep) (s : WorldTable) (n : ℕ) → n ≡ handed_before keep s
    → (keeps_seen keep ≡ true → s.handed ≡ 0) → keeps_seen keep ≡ true → n ≡ 0
none_handed keep s n is whole all = (is ∙ (rw all refl)) ∙ whole all

-- what a world lends of its trace is all of it, where it keeps all
pub all_kept : (t : WorldTable) (shown : List Obs) → shown ≡ drop t.handed t.trace → t.handed ≡ 0
    → shown ≡ t.trace
all_kept t shown is whole = is ∙ ap (λ (n : ℕ). drop n t.trace) whole

-- one entry more behind those that were taken
pub one_behind : (taken left new : List Entry) (e : Entry) → new ≡ left ++ e ∷ []
    → taken ++ new ≡ (taken ++ left) ++ e ∷ []
one_behind taken left new e is = ap (λ l. taken ++ l) is ∙ sym (append_assoc taken left (e ∷ []))

pub left_behind : (taken left new : List Entry) (e : Entry) → new ≡ left ++ e ∷ []
    → drop (length taken) (taken ++ new) ≡ drop (length taken) (taken ++ left) ++ e ∷ []
left_behind taken left new e is =
    drop-append_seam taken new ∙ is ∙ ap (λ l. l ++ e ∷ []) (sym (drop-append_seam taken left))

-- where none was taken, what is left is all
pub all_left : (taken left : List Entry) → length taken ≡ 0 → left ≡ taken ++ left
all_left [] left none = refl
all_left (e ∷ taken) left none = absurd (omega (arith, none))

-- its position is that of the last
pub one_longer : (taken left new : List Entry) (e : Entry) (before position : ℕ) → new ≡ left ++ e ∷ []
    → before ≡ length taken → position ≡ before + length left + 1 → position ≡ length (taken ++ new)
one_longer taken left new e before position is count at =
    omega (arith, count, at, ap length is, length-append left (e ∷ []), length-append taken new)

-- so all of it is kept
pub kept_after : (s t : WorldTable) (event : Event) (answer : Answer) (history later : List Entry)
    (sent unsent collected : List Note) (looks : ℕ) (put : Putter) (left : List Note) (keep : Keep) (taken : ℕ)
    → Stepped s event answer t → later ≡ history ++ entry event answer ∷ []
    → collected ≡ unsent ++ notes_of (drop (length s.trace) t.trace)
    → put.sent ++ left ≡ sent ++ collected → IsFlushedSince looks put left
    → IsLegal history (state_of s) → sent ++ unsent ≡ notes_of s.trace
    → (keeps_seen keep ≡ true → t.handed ≡ 0) → (keeps_events keep ≡ true → taken ≡ 0)
    → IsKept (record { world = t; history = later; taken = taken; put = put; unsent = left; keep = keep })
kept_after s t event answer history later sent unsent collected looks put left keep taken step is all puts flushed legal notes whole untaken = record {
  legal = kept_legal s t event answer history later step is legal;
  notes = kept_notes s t event answer sent unsent collected put.sent left step all puts notes;
  whole = whole;
  untaken = untaken;
  flushed = flushed_now looks put left flushed;
}

either_way : {A : Type 0} (b : Bool) → b ≡ true → b ≡ false → A
either_way true is isnt = absurd cc
either_way false is isnt = absurd cc

-- all entries are taken
pub taken_kept : (s : Sharing) → keeps_events s.keep ≡ false → IsKept s → IsKept (all_taken s)
taken_kept s none kept = record {
  legal = kept.legal;
  notes = kept.notes;
  whole = kept.whole;
  untaken = λ keeps. either_way (keeps_events s.keep) keeps none;
  flushed = kept.flushed;
}

-- the opening stays
pub kept_opening : (old new : Sharing) (event : Event) (position : ℕ) (answer : Answer)
    → Applies old new event position answer
    → setup_of (state_of new.world) ≡ setup_of (state_of old.world)
kept_opening old new event position answer h =
    (step_lawful (state_of old.world) event answer h.seen (state_of new.world) h.step).opening

-- so the history is a run from there
pub shared_from : (o : Setup) (s : Sharing) → IsShared s → setup_of (state_of s.world) ≡ o
    → IsSharedFrom o s
shared_from o s h is = record {
  run = subst
      (λ (x : Setup). Run (initial_state_of x) (events_of s.history) (answers_of s.history) (state_of s.world))
      is h.kept.legal;
  shared = h;
}

-- ---- at the start

pub opening_of_initial : (o : Setup) (s : State) → s ≡ initial_state_of o → setup_of s ≡ o
opening_of_initial o s is = ap setup_of is

pub new_legal : (o : Setup) (s : State) → s ≡ initial_state_of o → IsLegal [] s
new_legal o s is =
    subst (λ (x : State). IsLegal [] x) (sym is) refl

pub new_notes : (o : Setup) (t : WorldTable) → state_of t ≡ initial_state_of o → notes_of t.trace ≡ []
new_notes o t is =
    ap (λ (s : State). notes_of s.trace) (sym (state_is t) ∙ is)

pub new_kept : (o : Setup) (t : WorldTable) (history : List Entry) (put : Putter) (unsent : List Note) (keep : Keep) (taken : ℕ)
    → state_of t ≡ initial_state_of o → t.handed ≡ 0 → history ≡ [] → put.sent ≡ [] → unsent ≡ [] → taken ≡ 0
    → IsKept (record { world = t; history = history; taken = taken; put = put; unsent = unsent; keep = keep })
new_kept o t history put unsent keep taken is whole none sent waiting untaken = record {
  legal = subst (λ (l : List Entry). IsLegal l (state_of t)) (sym none) (new_legal o (state_of t) is);
  notes = (λ i. sent i ++ waiting i) ∙ sym (new_notes o t is);
  whole = λ all. whole;
  untaken = λ all. untaken;
  flushed = inl (ap length waiting);
}
