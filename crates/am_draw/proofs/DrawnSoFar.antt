-- The events so far have come, and they are drawn.
use Rattle.std.proofs.Common.{◌≡◌, ◌⊎◌, ◌+◌, ℕ, Bool, cond, List, [], ◌∷◌, ◌++◌, length, count_by, Option, Some, None, Result, Ok, Err, refl, sym, ap, ◌∙◌, subst, inl, inr, ⊎_elim, IfOk, IfErr, append_assoc, arith}
use Rattle.std.specs.Io.KnownBytes.{Appends}
use Rattle.std.proofs.lemmas.List.{append-nil, length-append}
use Rattle.am_machine.specs.State.{State}
use Rattle.am_script.specs.{ScriptFault, Output, Summary, is_refused, fault_at, NoRoomFor, NoNext, Owed, owed_by, bytes_of, IsLost, Stands, Numbered, Told, told_by, only_fault, IsWhole, IsShort, behind}
use Rattle.am_script.specs.declared.fault.ScriptFaultKind.TheVariants.{NoMemory, WriteFailed}
use Rattle.am_script.proofs.Answering.{count_more}
use Rattle.am_script.proofs.Closing.{lost_by}
use Rattle.am_script.proofs.OwedLemmas.{stands_new}
use Rattle.am_views.specs.{one_more}
use Rattle.am_draw.specs.{Lasts, Part, Size, first_lasts, Viewed, asked_in, answers_in, ViewedRun, event_piece, event_pieces, lasts_behind, next_lasts, tail_for, tail_pieces, pieces_of, picture, part_of, tail_behind, IsSizeOf, AllDrawn, DrawnToLoss, DrawStops, DrawEnds, IsDrawn, Finishes}
use Rattle.am_draw.proofs.LostPieces.{owed_for, owed_more, owed_one, bytes_for, within_some}
use Rattle.am_draw.proofs.BarLemmas.{lasting_push}
use Rattle.am_draw.proofs.PieceLemmas.{pieces_push, EndsAt, ends_push, tail_owed}
use Rattle.am_draw.proofs.RunLemmas.{run_more, asked_push, answers_push}

-- of all events these are left, and those before have come; what is drawn of them is put out
pub record Drawing (part : Part) (start : State) (all left : Told) (lasting : Lasts) (output : Output) (old new : Option (List ℕ)) (now : State) (summary : Summary) : Type 0 where
  pub rows : List Viewed
  pub parted : all ≡ behind (asked_in rows) left
  pub run : ViewedRun start rows now
  pub stands : Stands output (owed_for (event_pieces part 1 (first_lasts part) rows)) old new
  pub lasts : lasting ≡ lasts_behind part 1 (first_lasts part) rows
  pub line : EndsAt output.line rows
  pub lines : summary.lines ≡ length rows
  pub refused : summary.refused ≡ count_by is_refused (answers_in rows)

pub drawing_none : (part : Part) (start : State) (all : Told) (lasting : Lasts) (output : Output) (old : Option (List ℕ)) → lasting ≡ first_lasts part → output.bytes.items ≡ [] → output.marks.items ≡ [] → output.line ≡ 1 → output.lost ≡ None → Drawing part start all all lasting output old old start (record { lines = 0; refused = 0 })
drawing_none part start all lasting output old nothing e f line g = record {
  rows = [];
  parted = refl;
  run = refl;
  stands = stands_new output.bytes.items output.marks.items output.line output.lost old e f g;
  lasts = nothing;
  line = line;
  lines = refl;
  refused = refl;
}

-- what is put out for one event more
owed_push : (part : Part) (rows : List Viewed) (row : Viewed) (number : ℕ) (lasting : Lasts) → number ≡ 1 + length rows → lasting ≡ lasts_behind part 1 (first_lasts part) rows → owed_for (event_pieces part 1 (first_lasts part) (rows ++ row ∷ [])) ≡ owed_for (event_pieces part 1 (first_lasts part) rows) ++ owed_by row.asked.line (event_piece part number lasting row).bytes
owed_push part rows row number lasting e f =
    ap owed_for (pieces_push part 1 (first_lasts part) rows row)
    ∙ owed_more (event_pieces part 1 (first_lasts part) rows) (event_piece part (1 + length rows) (lasts_behind part 1 (first_lasts part) rows) row ∷ [])
    ∙ ap (λ (t : List Owed). owed_for (event_pieces part 1 (first_lasts part) rows) ++ t) (owed_one (event_piece part (1 + length rows) (lasts_behind part 1 (first_lasts part) rows) row))
    ∙ ap (λ (n : ℕ). owed_for (event_pieces part 1 (first_lasts part) rows) ++ owed_by row.asked.line (event_piece part n (lasts_behind part 1 (first_lasts part) rows) row).bytes) (sym e)
    ∙ ap (λ (l : Lasts). owed_for (event_pieces part 1 (first_lasts part) rows) ++ owed_by row.asked.line (event_piece part number l row).bytes) (sym f)

-- one more event has come
pub drawing_more : (part : Part) (start : State) (all left more : Told) (lasting next_lasting : Lasts) (kept keeps : Output) (old mid new : Option (List ℕ)) (s next : State) (summary : Summary) (asked : Numbered) (number : ℕ) (refused : Bool) → left ≡ told_by (Ok (Some asked.event)) asked.line more → number ≡ summary.lines + 1 → Drawing part start all left lasting kept old mid s summary → IsDrawn part number s asked next lasting next_lasting kept keeps mid new refused → Drawing part start all more next_lasting keeps old new next (one_more summary refused)
drawing_more part start all left more lasting next_lasting kept keeps old mid new s next summary asked number refused e n h drawn =
    let row : Viewed = drawn.row in
    let is : number ≡ 1 + length h.rows = omega (arith, n, h.lines) in
    let told : left ≡ told_by (Ok (Some row.asked.event)) row.asked.line more = e ∙ ap (λ (a : Numbered). told_by (Ok (Some a.event)) a.line more) (sym drawn.is) in record {
      rows = h.rows ++ row ∷ [];
      parted = h.parted ∙ ap (behind (asked_in h.rows)) told ∙ ap (λ (rows : List Numbered). record more { events = rows }) (sym (append_assoc (asked_in h.rows) (row.asked ∷ []) more.events)) ∙ ap (λ (rows : List Numbered). behind rows more) (sym (asked_push h.rows row));
      run = run_more start h.rows s row next h.run drawn.views;
      stands = subst (λ (t : List Owed). Stands keeps t old new) (sym (owed_push part h.rows row number lasting is h.lasts)) (drawn.puts (owed_for (event_pieces part 1 (first_lasts part) h.rows)) old h.stands);
      lasts =
          drawn.lasts
          ∙ ap (λ (n : ℕ). next_lasts part n lasting row.asked.event row.seen row.after) is
          ∙ ap (λ (l : Lasts). next_lasts part (1 + length h.rows) l row.asked.event row.seen row.after) h.lasts
          ∙ sym (lasting_push part 1 (first_lasts part) h.rows row);
      line = subst (λ (n : ℕ). EndsAt n (h.rows ++ row ∷ [])) (sym drawn.line) (ends_push h.rows row);
      lines = rw (length-append h.rows (row ∷ [])) (ap (λ (n : ℕ). n + 1) h.lines);
      refused = rw (answers_push h.rows row, count_more is_refused (answers_in h.rows) row.answer, drawn.test) (ap (λ (n : ℕ). n + cond (is_refused row.answer) 1 0) h.refused);
    }

-- ---- the end

-- what was put out is all that is drawn of these events, once its tail is
whole_owed : (part : Part) (rows : List Viewed) (line events : ℕ) (lasting : Lasts) → EndsAt line rows → events ≡ length rows → lasting ≡ lasts_behind part 1 (first_lasts part) rows → owed_for (event_pieces part 1 (first_lasts part) rows) ++ owed_by line (tail_behind part events lasting) ≡ owed_for (pieces_of part rows)
whole_owed part rows line events lasting h e f =
    ap (λ (n : ℕ). owed_for (event_pieces part 1 (first_lasts part) rows) ++ owed_by line (tail_behind part n lasting)) e
    ∙ ap (λ (l : Lasts). owed_for (event_pieces part 1 (first_lasts part) rows) ++ owed_by line (tail_behind part (length rows) l)) f
    ∙ ap (λ (t : List Owed). owed_for (event_pieces part 1 (first_lasts part) rows) ++ t) (sym (tail_owed line (tail_for part rows) rows h))
    ∙ sym (owed_more (event_pieces part 1 (first_lasts part) rows) (tail_pieces (tail_for part rows) rows))

lost_more : (all more : List Owed) (line : ℕ) (old new : Option (List ℕ)) → IsLost all line old new → IsLost (all ++ more) line old new
lost_more all more line old new h = record {
  front = h.front;
  first = h.first;
  others = h.others ++ more;
  parts = ap (λ (t : List Owed). t ++ more) h.parts ∙ append_assoc h.front (h.first ∷ h.others) more;
  line_is = h.line_is;
  written = h.written;
}

lost_piece : (first last : ℕ) (size : Size) (start : State) (all left : Told) (rows : List Viewed) (line : ℕ) (old new : Option (List ℕ)) (now : State) → IsSizeOf start all size → all ≡ behind (asked_in rows) left → ViewedRun start rows now → IsLost (owed_for (pieces_of (part_of first last size) rows)) line old new → DrawnToLoss first last start all old new (fault_at line WriteFailed)
lost_piece first last size start all left rows line old new now sized parted run lost =
    let w = within_some (pieces_of (part_of first last size) rows) lost.front lost.first lost.others lost.parts in
    record {
      loss = refl;
      size = size;
      sized = sized;
      rows = rows;
      left = left.events;
      asked = ap (λ (t : Told). t.events) parted;
      ends = now;
      run = run;
      done = w.done;
      here = w.here;
      others = w.others;
      parted = w.parted;
      line = sym lost.line_is ∙ w.line_is;
      taken = w.taken;
      short = w.short;
      written = subst (λ (t : List ℕ). Appends old new t) w.bytes lost.written;
    }

-- the writer didn't take all of what was put out so far
pub drawing_cut : (first last : ℕ) (size : Size) (part : Part) (start : State) (all left : Told) (lasting : Lasts) (output : Output) (old new : Option (List ℕ)) (now : State) (summary : Summary) (line : ℕ) → IsSizeOf start all size → part ≡ part_of first last size → output.lost ≡ Some line → Drawing part start all left lasting output old new now summary → DrawEnds first last start all old new (Err (fault_at line WriteFailed))
drawing_cut first last size part start all left lasting output old new now summary line sized is e h =
    let lost = lost_by output.lost line _ (owed_for (event_pieces part 1 (first_lasts part) h.rows)) old new e h.stands.owes in
    let whole = lost_more (owed_for (event_pieces part 1 (first_lasts part) h.rows)) (owed_by output.line (tail_behind part summary.lines lasting)) line old new lost in
    let drawn = subst (λ (t : List Owed). IsLost t line old new) (whole_owed part h.rows output.line summary.lines lasting h.line h.lines h.lasts) whole in
    inr (inr (inl (lost_piece first last size start all left h.rows line old new now sized h.parted h.run (subst (λ (p : Part). IsLost (owed_for (pieces_of p h.rows)) line old new) is drawn))))

-- the end of a picture, whose pieces are these
pub record Ending (part : Part) (rows : List Viewed) (ended : Result Summary ScriptFault) (old new : Option (List ℕ)) (r : Result Summary ScriptFault) : Type 0 where
  pub ends : IsWhole ended r (owed_for (pieces_of part rows)) old new ⊎ IsShort r (owed_for (pieces_of part rows)) old new

ending : (part : Part) (start : State) (all left : Told) (lasting : Lasts) (output : Output) (old mid new : Option (List ℕ)) (now : State) (summary : Summary) (ended r : Result Summary ScriptFault) (h : Drawing part start all left lasting output old mid now summary) → Finishes output (tail_behind part summary.lines lasting) ended mid new r → Ending part h.rows ended old new r
ending part start all left lasting output old mid new now summary ended r h closes = record {
  ends =
      subst (λ (t : List Owed). IsWhole ended r t old new ⊎ IsShort r t old new) (whole_owed part h.rows output.line summary.lines lasting h.line h.lines h.lasts)
      (closes (owed_for (event_pieces part 1 (first_lasts part) h.rows)) old h.stands);
}

written_for : (part : Part) (rows : List Viewed) (old new : Option (List ℕ)) → Appends old new (bytes_of (owed_for (pieces_of part rows))) → Appends old new (picture part rows)
written_for part rows old new h = subst (λ (t : List ℕ). Appends old new t) (bytes_for (pieces_of part rows)) h

ends_short : (first last : ℕ) (size : Size) (start : State) (all left : Told) (rows : List Viewed) (old new : Option (List ℕ)) (now : State) (r : Result Summary ScriptFault) → IsSizeOf start all size → all ≡ behind (asked_in rows) left → ViewedRun start rows now → IsShort r (owed_for (pieces_of (part_of first last size) rows)) old new → DrawEnds first last start all old new r
ends_short first last size start all left rows old new now r sized parted run short =
    subst (λ (t : Result Summary ScriptFault). DrawEnds first last start all old new t) (sym short.told) (inr (inr (inl (lost_piece first last size start all left rows short.line old new now sized parted run short.lost))))

-- no event is left
pub drawing_ends : (first last : ℕ) (size : Size) (part : Part) (start : State) (all left : Told) (lasting : Lasts) (output : Output) (old mid new : Option (List ℕ)) (now : State) (summary : Summary) (r : Result Summary ScriptFault) → IsSizeOf start all size → part ≡ part_of first last size → left ≡ only_fault None → Drawing part start all left lasting output old mid now summary → Finishes output (tail_behind part summary.lines lasting) (Ok summary) mid new r → DrawEnds first last start all old new r
drawing_ends first last size part start all left lasting output old mid new now summary r sized is none h closes =
    let parted : all ≡ behind (asked_in h.rows) (only_fault None) = h.parted ∙ ap (behind (asked_in h.rows)) none in
    let ends = subst (λ (p : Part). Ending p h.rows (Ok summary) old new r) is (ending part start all left lasting output old mid new now summary (Ok summary) r h closes) in
    ⊎_elim (λ (w : IsWhole (Ok summary) r (owed_for (pieces_of (part_of first last size) h.rows)) old new). subst (λ (t : Result Summary ScriptFault). DrawEnds first last start all old new t) (sym w.same) (record {
      no_fault = ap (λ (t : Told). t.fault) parted;
      size = size;
      sized = sized;
      rows = h.rows;
      asked = ap (λ (t : Told). t.events) parted ∙ append-nil (asked_in h.rows);
      ends = now;
      run = h.run;
      written = written_for (part_of first last size) h.rows old new w.written;
      lines = h.lines;
      refused = h.refused;
    })) (ends_short first last size start all left h.rows old new now r sized h.parted h.run) ends.ends

-- a fault is left
fault_left : (first last : ℕ) (size : Size) (start : State) (all : Told) (rows : List Viewed) (old new : Option (List ℕ)) (now : State) (fault : ScriptFault) → IsSizeOf start all size → all ≡ behind (asked_in rows) (only_fault (Some fault)) → ViewedRun start rows now → Appends old new (picture (part_of first last size) rows) → DrawStops first last start all old new fault
fault_left first last size start all rows old new now fault sized parted run written = inl (record {
  found = ap (λ (t : Told). t.fault) parted;
  size = size;
  sized = sized;
  rows = rows;
  asked = ap (λ (t : Told). t.events) parted ∙ append-nil (asked_in rows);
  ends = now;
  run = run;
  written = written;
})

-- memory ran out for the event that is left first
room_left : (first last : ℕ) (size : Size) (start : State) (all left : Told) (rows : List Viewed) (old new : Option (List ℕ)) (now : State) (fault : ScriptFault) → IsSizeOf start all size → all ≡ behind (asked_in rows) left → ViewedRun start rows now → Appends old new (picture (part_of first last size) rows) → NoRoomFor left fault → DrawStops first last start all old new fault
room_left first last size start all left rows old new now fault sized parted run written none = inr (inl (record {
  kind = none.kind;
  size = size;
  sized = sized;
  rows = rows;
  here = none.here;
  others = none.others.events;
  parted = ap (λ (t : Told). t.events) parted ∙ ap (λ (t : Told). asked_in rows ++ t.events) none.parted;
  line = none.line;
  ends = now;
  run = run;
  written = written;
}))

stopped_by : (first last : ℕ) (size : Size) (start : State) (all left : Told) (rows : List Viewed) (old new : Option (List ℕ)) (now : State) (fault : ScriptFault) → IsSizeOf start all size → all ≡ behind (asked_in rows) left → ViewedRun start rows now → Appends old new (picture (part_of first last size) rows) → NoNext left fault → DrawStops first last start all old new fault
stopped_by first last size start all left rows old new now fault sized parted run written (inl e) =
    fault_left first last size start all rows old new now fault sized (parted ∙ ap (behind (asked_in rows)) e) run written
stopped_by first last size start all left rows old new now fault sized parted run written (inr none) =
    room_left first last size start all left rows old new now fault sized parted run written none

-- a fault comes first of what is left, or memory ran out for the event that does
pub drawing_fails : (first last : ℕ) (size : Size) (part : Part) (start : State) (all left : Told) (lasting : Lasts) (output : Output) (old mid new : Option (List ℕ)) (now : State) (summary : Summary) (fault : ScriptFault) (r : Result Summary ScriptFault) → IsSizeOf start all size → part ≡ part_of first last size → NoNext left fault → Drawing part start all left lasting output old mid now summary → Finishes output (tail_behind part summary.lines lasting) (Err fault) mid new r → DrawEnds first last start all old new r
drawing_fails first last size part start all left lasting output old mid new now summary fault r sized is stops h closes =
    let ends = subst (λ (p : Part). Ending p h.rows (Err fault) old new r) is (ending part start all left lasting output old mid new now summary (Err fault) r h closes) in
    ⊎_elim (λ (w : IsWhole (Err fault) r (owed_for (pieces_of (part_of first last size) h.rows)) old new). subst (λ (t : Result Summary ScriptFault). DrawEnds first last start all old new t) (sym w.same) (stopped_by first last size start all left h.rows old new now fault sized h.parted h.run (written_for (part_of first last size) h.rows old new w.written) stops)) (ends_short first last size start all left h.rows old new now r sized h.parted h.run) ends.ends

-- memory ran out for this event, of which nothing is put out
pub no_room : (left more : Told) (asked : Numbered) (fault : ScriptFault) → left ≡ told_by (Ok (Some asked.event)) asked.line more → fault ≡ fault_at asked.line NoMemory → NoNext left fault
no_room left more asked fault e told = inr (record {
  kind = ap (λ (f : ScriptFault). f.kind) told;
  here = asked;
  others = more;
  parted = e;
  line = ap (λ (f : ScriptFault). f.line) told;
})

pub ends_ok : (first last : ℕ) (start : State) (told : Told) (old new : Option (List ℕ)) (r : Result Summary ScriptFault) → DrawEnds first last start told old new r → IfOk r (AllDrawn first last start told old new)
ends_ok first last start told old new (Ok summary) h = h
ends_ok first last start told old new (Err fault) h = tt

pub ends_err : (first last : ℕ) (start : State) (told : Told) (old new : Option (List ℕ)) (r : Result Summary ScriptFault) → DrawEnds first last start told old new r → IfErr r (DrawStops first last start told old new)
ends_err first last start told old new (Ok summary) h = tt
ends_err first last start told old new (Err fault) h = h
