-- A script that is read in pieces.
use Rattle.std.proofs.Common.{◌≡◌, ◌≤◌, ◌<◌, ◌+◌, ◌-◌, ℕ, Bool, true, false, cond, ltb, List, [], ◌∷◌, ◌++◌, length, take, Option, Some, None, refl, sym, ap, subst, ◌∙◌, inl, inr, append_assoc, append-nil, arith}
use Rattle.std.specs.Io.KnownBytes.{Consumes, Keeps, IsAtEnd}
use Rattle.std.specs.List.{onto_first}
use Rattle.std.proofs.lemmas.Bool.{lt-ltb, le-ltb, ltb-true, ltb-false, false≢true}
use Rattle.std.proofs.lemmas.List.{length-append, length_push, take_at}
use Rattle.std.proofs.lemmas.List.Elements.{All-nil, All-head, All-tail, All-append}
use Rattle.std.proofs.lemmas.List.Splits.{slice_split_none, slice_split_at, slice_split-cons_no}
use Rattle.am_lines.specs.{is_line_feed}
use Rattle.am_script.specs.{ScriptFault, ScriptFaultKind, Summary, Player, lines_of, is_long, EndsNoLine, IsCut, HaltsIn, Halts, IsPlayed, BreaksOff, PlaysInput, StopsInput, PlayerStands, Form, TakesLine, StopsAtLine, StopsAtLong, LosesAnswer, Flushes, EndsPlayed, EndsStopped, last_of, cut_line, cut_kind, played, ReadingStands, TakesBytes, StopsInBytes, EndsRead, StopsRead, BreaksRead, script_from}
use Rattle.am_script.specs.declared.fault.ScriptFaultKind.TheVariants.{ReadFailed}
use Rattle.am_script.specs.declared.reading.Reading.{Reading}

-- ---- lines

line_ends : (line rest : List ℕ) → EndsNoLine line → lines_of (line ++ 10 ∷ rest) ≡ line ∷ lines_of rest
line_ends line rest h = slice_split_at is_line_feed line 10 rest h refl

last_line : (line : List ℕ) → EndsNoLine line → lines_of line ≡ line ∷ []
last_line line h = slice_split_none is_line_feed line h

-- these lines begin with one that begins so
record BeginsWith (bytes : List ℕ) (lines : List (List ℕ)) : Type 0 where
  rest : List ℕ
  others : List (List ℕ)
  parts : lines ≡ (bytes ++ rest) ∷ others

begins_more : (b : ℕ) (bytes : List ℕ) (lines : List (List ℕ)) → BeginsWith bytes lines → BeginsWith (b ∷ bytes) (onto_first b lines)
begins_more b bytes lines h = record { rest = h.rest; others = h.others; parts = ap (onto_first b) h.parts }

begins_none : (bytes : List ℕ) → BeginsWith [] (lines_of bytes)
begins_none [] = record { rest = []; others = []; parts = refl }
begins_none (b ∷ bytes) =
    let h = begins_none bytes in
    elim (is_line_feed b) as (λ t. BeginsWith [] (cond t ([] ∷ lines_of bytes) (onto_first b (lines_of bytes)))) [
      | true ↦ record { rest = []; others = lines_of bytes; parts = refl }
      | false ↦ record { rest = b ∷ h.rest; others = h.others; parts = ap (onto_first b) h.parts }
    ]

-- bytes among which no line ends are the beginning of a line
line_begins : (bytes more : List ℕ) → EndsNoLine bytes → BeginsWith bytes (lines_of (bytes ++ more))
line_begins [] more h = begins_none more
line_begins (b ∷ bytes) more h =
    subst (λ (lines : List (List ℕ)). BeginsWith (b ∷ bytes) lines) (sym (slice_split-cons_no is_line_feed b (bytes ++ more) (All-head (λ (x : ℕ). is_line_feed x ≡ false) b bytes h)))
    (begins_more b bytes (lines_of (bytes ++ more)) (line_begins bytes more (All-tail (λ (x : ℕ). is_line_feed x ≡ false) b bytes h)))

long_more : (bytes rest : List ℕ) → is_long bytes ≡ true → is_long (bytes ++ rest) ≡ true
long_more bytes rest h = lt-ltb 8192 (length (bytes ++ rest)) (omega (arith, ltb-true 8192 (length bytes) h, length-append bytes rest))

pub too_long : (held end : List ℕ) → (false ≡ true → length held + length end ≤ 8192) × (length held + length end ≤ 8192 → false ≡ true) → 8192 < length (held ++ end)
too_long held end h = by (ltb 8192 (length held + length end)) refl
  where
    by : (b : Bool) → ltb 8192 (length held + length end) ≡ b → 8192 < length (held ++ end)
    by true e = omega (arith, ltb-true 8192 (length held + length end) e, length-append held end)
    by false e = absurd (false≢true (h.1 (ltb-false 8192 (length held + length end) e)))

pub long_line : (bytes : List ℕ) → 8192 < length bytes → is_long bytes ≡ true
long_line bytes h = lt-ltb 8192 (length bytes) h

short_line : (bytes : List ℕ) → length bytes ≤ 8192 → is_long bytes ≡ false
short_line bytes h = le-ltb 8192 (length bytes) h

-- ---- what was read

-- bytes behind what was read, from the beginning of its last line
behind_held : (text whole held end more : List ℕ) → text ≡ whole ++ held → text ++ (end ++ more) ≡ whole ++ ((held ++ end) ++ more)
behind_held text whole held end more e =
    ap (λ (t : List ℕ). t ++ (end ++ more)) e ∙ append_assoc whole held (end ++ more) ∙ ap (λ (t : List ℕ). whole ++ t) (sym (append_assoc held end more))

lines_behind : (form : Form) → (reading : Reading) (text bytes : List ℕ) (start held : Option (List ℕ)) (h : ReadingStands form reading text start held) → lines_of (text ++ bytes) ≡ h.front ++ lines_of (reading.held.items ++ bytes)
lines_behind form reading text bytes start held h =
    ap (λ (t : List ℕ). lines_of (t ++ bytes)) h.parts ∙ ap lines_of (append_assoc h.whole reading.held.items bytes) ∙ h.splits (reading.held.items ++ bytes)

-- the lines of what was read, and of the end of a line
lines_upto : (form : Form) → (reading : Reading) (text end : List ℕ) (start held : Option (List ℕ)) (h : ReadingStands form reading text start held) → EndsNoLine end → lines_of (text ++ end) ≡ h.front ++ (reading.held.items ++ end) ∷ []
lines_upto form reading text end start held h whole =
    lines_behind form reading text end start held h
    ∙ ap (λ (t : List (List ℕ)). h.front ++ t) (last_line (reading.held.items ++ end) (All-append (λ (b : ℕ). is_line_feed b ≡ false) reading.held.items end h.cut whole))

-- the same, where more follows
lines_past : (form : Form) → (reading : Reading) (text end rest : List ℕ) (start held : Option (List ℕ)) (h : ReadingStands form reading text start held) → EndsNoLine end → lines_of (text ++ (end ++ 10 ∷ rest)) ≡ h.front ++ (reading.held.items ++ end) ∷ lines_of rest
lines_past form reading text end rest start held h whole =
    lines_behind form reading text (end ++ 10 ∷ rest) start held h
    ∙ ap (λ (t : List ℕ). h.front ++ lines_of t) (sym (append_assoc reading.held.items end (10 ∷ rest)))
    ∙ ap (λ (t : List (List ℕ)). h.front ++ t) (line_ends (reading.held.items ++ end) rest (All-append (λ (b : ℕ). is_line_feed b ≡ false) reading.held.items end h.cut whole))

-- nothing is read yet
pub none_read : (form : Form) → (reading : Reading) (start : Option (List ℕ)) → reading.held.items ≡ [] → PlayerStands form reading.player [] start start → ReadingStands form reading [] start start
none_read form reading start empty stands = record {
  front = [];
  whole = [];
  parts = sym empty;
  splits = λ rest. refl;
  cut = subst EndsNoLine (sym empty) (All-nil (λ (b : ℕ). is_line_feed b ≡ false));
  short = rw empty (omega arith);
  stands = stands;
}

-- a line ends
pub line_taken_whole : (form : Form) → (reading next : Reading) (text end : List ℕ) (start held holds : Option (List ℕ)) → ReadingStands form reading text start held → EndsNoLine end →
    TakesLine form reading.player next.player (reading.held.items ++ end) held holds → next.held.items ≡ [] → ReadingStands form next (text ++ (end ++ 10 ∷ [])) start holds
line_taken_whole form reading next text end start held holds h whole takes empty =
    let line = reading.held.items ++ end in
    record {
      front = h.front ++ line ∷ [];
      whole = h.whole ++ (line ++ 10 ∷ []);
      parts = behind_held text h.whole reading.held.items end (10 ∷ []) h.parts ∙ sym (append-nil (h.whole ++ (line ++ 10 ∷ []))) ∙ ap (λ (t : List ℕ). (h.whole ++ (line ++ 10 ∷ [])) ++ t) (sym empty);
      splits = λ rest. ap lines_of (append_assoc h.whole (line ++ 10 ∷ []) rest ∙ ap (λ (t : List ℕ). h.whole ++ t) (append_assoc line (10 ∷ []) rest))
          ∙ h.splits (line ++ 10 ∷ rest)
          ∙ ap (λ (t : List (List ℕ)). h.front ++ t) (line_ends line rest (All-append (λ (b : ℕ). is_line_feed b ≡ false) reading.held.items end h.cut whole))
          ∙ sym (append_assoc h.front (line ∷ []) (lines_of rest));
      cut = subst EndsNoLine (sym empty) (All-nil (λ (b : ℕ). is_line_feed b ≡ false));
      short = rw empty (omega arith);
      stands = takes h.front start h.stands;
    }

-- bytes are held
pub bytes_held : (form : Form) → (reading next : Reading) (text bytes : List ℕ) (start held : Option (List ℕ)) → ReadingStands form reading text start held → EndsNoLine bytes → next.player ≡ reading.player → next.held.items ≡ reading.held.items ++ bytes → length (reading.held.items ++ bytes) ≤ 8192 → ReadingStands form next (text ++ bytes) start held
bytes_held form reading next text bytes start held h whole same holds fits = record {
  front = h.front;
  whole = h.whole;
  parts = ap (λ (t : List ℕ). t ++ bytes) h.parts ∙ append_assoc h.whole reading.held.items bytes ∙ ap (λ (t : List ℕ). h.whole ++ t) (sym holds);
  splits = h.splits;
  cut = subst EndsNoLine (sym holds) (All-append (λ (b : ℕ). is_line_feed b ≡ false) reading.held.items bytes h.cut whole);
  short = rw holds fits;
  stands = subst (λ (p : Player). PlayerStands form p h.front start held) (sym same) h.stands;
}

-- answers are written
pub reading_flushed : (form : Form) → (reading next : Reading) (text : List ℕ) (start held holds : Option (List ℕ)) → ReadingStands form reading text start held → Flushes reading.player next.player held holds → next.held.items ≡ reading.held.items → ReadingStands form next text start holds
reading_flushed form reading next text start held holds h flushes same = record {
  front = h.front;
  whole = h.whole;
  parts = h.parts ∙ ap (λ (t : List ℕ). h.whole ++ t) (sym same);
  splits = h.splits;
  cut = subst EndsNoLine (sym same) h.cut;
  short = rw same h.short;
  stands = flushes form h.front start h.stands;
}

-- ---- the script stops

halts_as : (form : Form) → (broke : Option ScriptFaultKind) (one other : List (List ℕ)) (few many : ℕ) (start now : Option (List ℕ)) (fault : ScriptFault) → one ≡ other → few ≡ many → HaltsIn form (script_from broke one) few start now fault → HaltsIn form (script_from broke other) many start now fault
halts_as form broke one other few many start now fault e f h =
    subst (λ (n : ℕ). HaltsIn form (script_from broke other) n start now fault) f (subst (λ (t : List (List ℕ)). HaltsIn form (script_from broke t) few start now fault) e h)

count_upto : (form : Form) → (reading : Reading) (text end : List ℕ) (start held : Option (List ℕ)) (h : ReadingStands form reading text start held) → EndsNoLine end → length h.front + 1 ≡ length (lines_of (text ++ end))
count_upto form reading text end start held h whole =
    sym (ap (λ (ls : List (List ℕ)). length ls) (lines_upto form reading text end start held h whole) ∙ length_push h.front (reading.held.items ++ end))

-- at a line whose end was read
pub line_halts : (form : Form) → (reading : Reading) (text end rest : List ℕ) (start held holds : Option (List ℕ)) (fault : ScriptFault) → ReadingStands form reading text start held → EndsNoLine end → length rest ≤ 4095 →
    StopsAtLine form reading.player (reading.held.items ++ end) held holds fault → Halts form (text ++ (end ++ 10 ∷ rest)) start holds fault
line_halts form reading text end rest start held holds fault h whole few stops = record {
  upto = text ++ end;
  ahead = 10 ∷ rest;
  parts = sym (append_assoc text end (10 ∷ rest));
  few = (refl, few);
  halts = λ more.
      let past : lines_of ((text ++ (end ++ 10 ∷ rest)) ++ more) ≡ h.front ++ (reading.held.items ++ end) ∷ lines_of (rest ++ more) =
      ap lines_of (append_assoc text (end ++ 10 ∷ rest) more ∙ ap (λ (t : List ℕ). text ++ t) (append_assoc end (10 ∷ rest) more)) ∙ lines_past form reading text end (rest ++ more) start held h whole in
      halts_as form None (h.front ++ (reading.held.items ++ end) ∷ lines_of (rest ++ more)) (lines_of ((text ++ (end ++ 10 ∷ rest)) ++ more)) (length h.front + 1) (length (lines_of (text ++ end))) start holds fault (sym past) (count_upto form reading text end start held h whole)
      (stops h.front start h.stands (record { broke = None; lines = lines_of (rest ++ more) }));
}

-- at a line that is too long already
pub long_halts : (form : Form) → (reading : Reading) (text bytes : List ℕ) (start held holds : Option (List ℕ)) (fault : ScriptFault) → ReadingStands form reading text start held → EndsNoLine bytes → 8192 < length (reading.held.items ++ bytes) →
    StopsAtLong reading.player held holds fault → Halts form (text ++ bytes) start holds fault
long_halts form reading text bytes start held holds fault h whole long stops = record {
  upto = text ++ bytes;
  ahead = [];
  parts = sym (append-nil (text ++ bytes));
  few = tt;
  halts = λ more.
      let line = reading.held.items ++ bytes in
      let begins = line_begins line more (All-append (λ (b : ℕ). is_line_feed b ≡ false) reading.held.items bytes h.cut whole) in
      let lines : lines_of ((text ++ bytes) ++ more) ≡ h.front ++ (line ++ begins.rest) ∷ begins.others =
      ap lines_of (append_assoc text bytes more) ∙ lines_behind form reading text (bytes ++ more) start held h
      ∙ ap (λ (t : List ℕ). h.front ++ lines_of t) (sym (append_assoc reading.held.items bytes more))
      ∙ ap (λ (t : List (List ℕ)). h.front ++ t) begins.parts in
      halts_as form None (h.front ++ (line ++ begins.rest) ∷ begins.others) (lines_of ((text ++ bytes) ++ more)) (length h.front + 1) (length (lines_of (text ++ bytes))) start holds fault (sym lines) (count_upto form reading text bytes start held h whole)
      (stops form (line ++ begins.rest) (long_more line begins.rest (long_line line long)) h.front start h.stands (record { broke = None; lines = begins.others }));
}

-- at an answer that isn't written whole
pub lost_halts : (form : Form) → (reading : Reading) (text : List ℕ) (start held holds : Option (List ℕ)) (fault : ScriptFault) → ReadingStands form reading text start held → LosesAnswer reading.player held holds fault → Halts form text start holds fault
lost_halts form reading text start held holds fault h loses = record {
  upto = text;
  ahead = [];
  parts = sym (append-nil text);
  few = tt;
  halts = λ more.
      halts_as form None (h.front ++ lines_of (reading.held.items ++ more)) (lines_of (text ++ more)) (length (lines_of text)) (length (lines_of text)) start holds fault (sym (lines_behind form reading text more start held h)) refl
      (loses form h.front start h.stands (record { broke = None; lines = lines_of (reading.held.items ++ more) }) (length (lines_of text)));
}

-- ---- no byte follows

lines_read : (form : Form) → (reading : Reading) (text : List ℕ) (start held : Option (List ℕ)) (h : ReadingStands form reading text start held) → lines_of text ≡ h.front ++ reading.held.items ∷ []
lines_read form reading text start held h = ap lines_of h.parts ∙ h.splits reading.held.items ∙ ap (λ (t : List (List ℕ)). h.front ++ t) (last_line reading.held.items h.cut)

count_read : (form : Form) → (reading : Reading) (text : List ℕ) (start held : Option (List ℕ)) (h : ReadingStands form reading text start held) → length (h.front ++ reading.held.items ∷ []) ≡ length (lines_of text)
count_read form reading text start held h = sym (ap (λ (ls : List (List ℕ)). length ls) (lines_read form reading text start held h))

pub last_stops : (form : Form) → (reading : Reading) (held holds : Option (List ℕ)) (fault : ScriptFault) → StopsAtLine form reading.player reading.held.items held holds fault → StopsRead form reading held holds fault
last_stops form reading held holds fault stops text start h =
    halts_as form None (h.front ++ reading.held.items ∷ []) (lines_of text) (length h.front + 1) (length (lines_of text)) start holds fault (sym (lines_read form reading text start held h)) (sym (length_push h.front reading.held.items) ∙ count_read form reading text start held h)
    (stops h.front start h.stands (record { broke = None; lines = [] }))

pub all_played : (form : Form) → (reading : Reading) (player : Player) (held mid holds : Option (List ℕ)) (summary : Summary) → TakesLine form reading.player player reading.held.items held mid → EndsPlayed player None mid holds summary → EndsRead form reading held holds summary
all_played form reading player held mid holds summary takes ends text start h =
    subst (λ (t : List (List ℕ)). IsPlayed form (script_from None t) start holds summary) (sym (lines_read form reading text start held h)) (ends form (h.front ++ reading.held.items ∷ []) start (takes h.front start h.stands))

pub all_stopped : (form : Form) → (reading : Reading) (player : Player) (held mid holds : Option (List ℕ)) (fault : ScriptFault) → TakesLine form reading.player player reading.held.items held mid → EndsStopped player None mid holds fault → StopsRead form reading held holds fault
all_stopped form reading player held mid holds fault takes ends text start h =
    halts_as form None (h.front ++ reading.held.items ∷ []) (lines_of text) (length (h.front ++ reading.held.items ∷ [])) (length (lines_of text)) start holds fault (sym (lines_read form reading text start held h)) (count_read form reading text start held h)
    (ends form (h.front ++ reading.held.items ∷ []) start (takes h.front start h.stands))

-- ---- reading breaks off

last_of_push : (lines : List (List ℕ)) (line : List ℕ) → last_of (lines ++ line ∷ []) ≡ line
last_of_push [] line = refl
last_of_push (first ∷ []) line = refl
last_of_push (first ∷ second ∷ lines) line = last_of_push (second ∷ lines) line

cut_read : (form : Form) → (reading : Reading) (text : List ℕ) (start held : Option (List ℕ)) (h : ReadingStands form reading text start held) → cut_line text ≡ reading.held.items
cut_read form reading text start held h = ap last_of (lines_read form reading text start held h) ∙ last_of_push h.front reading.held.items

whole_read : (form : Form) → (reading : Reading) (text : List ℕ) (start held : Option (List ℕ)) (h : ReadingStands form reading text start held) → played (Some ReadFailed) text ≡ h.whole
whole_read form reading text start held h =
    let size : length text ≡ length h.whole + length reading.held.items = ap (λ (t : List ℕ). length t) h.parts ∙ length-append h.whole reading.held.items in
    ap (λ (t : List ℕ). take (length text - length t) text) (cut_read form reading text start held h)
    ∙ ap (λ (n : ℕ). take n text) (omega (arith, size))
    ∙ ap (take (length h.whole)) h.parts
    ∙ take_at h.whole reading.held.items (length h.whole) refl

lines_whole : (form : Form) → (reading : Reading) (text : List ℕ) (start held : Option (List ℕ)) (h : ReadingStands form reading text start held) → lines_of (played (Some ReadFailed) text) ≡ h.front ++ [] ∷ []
lines_whole form reading text start held h = ap lines_of (whole_read form reading text start held h ∙ sym (append-nil h.whole)) ∙ h.splits []

told_read : (form : Form) → (reading : Reading) (text : List ℕ) (start held : Option (List ℕ)) (h : ReadingStands form reading text start held) → cut_kind (cut_line text) ReadFailed ≡ ReadFailed
told_read form reading text start held h = ap (λ (t : List ℕ). cut_kind t ReadFailed) (cut_read form reading text start held h) ∙ rw (short_line reading.held.items h.short) refl

breaks_as : (form : Form) → (reading : Reading) (text : List ℕ) (start held holds : Option (List ℕ)) (count : ℕ) (fault : ScriptFault) (h : ReadingStands form reading text start held) → count ≡ length h.front + 1 → HaltsIn form (script_from (Some ReadFailed) (h.front ++ [] ∷ [])) count start holds fault → BreaksOff form text start holds fault
breaks_as form reading text start held holds count fault h e stopped =
    let lines = lines_whole form reading text start held h in
    let counted : count ≡ length (lines_of (played (Some ReadFailed) text)) = e ∙ sym (length_push h.front []) ∙ sym (ap (λ (ls : List (List ℕ)). length ls) lines) in
    subst (λ (k : ScriptFaultKind). HaltsIn form (script_from (Some k) (lines_of (played (Some ReadFailed) text))) (length (lines_of (played (Some ReadFailed) text))) start holds fault) (sym (told_read form reading text start held h))
    (halts_as form (Some ReadFailed) (h.front ++ [] ∷ []) (lines_of (played (Some ReadFailed) text)) count (length (lines_of (played (Some ReadFailed) text))) start holds fault (sym lines) counted stopped)

pub break_stops : (form : Form) → (reading : Reading) (held holds : Option (List ℕ)) (fault : ScriptFault) → StopsAtLine form reading.player [] held holds fault → BreaksRead form reading held holds fault
break_stops form reading held holds fault stops text start h =
    breaks_as form reading text start held holds (length h.front + 1) fault h refl (stops h.front start h.stands (record { broke = Some ReadFailed; lines = [] }))

pub all_broken : (form : Form) → (reading : Reading) (player : Player) (held mid holds : Option (List ℕ)) (fault : ScriptFault) → TakesLine form reading.player player [] held mid → EndsStopped player (Some ReadFailed) mid holds fault → BreaksRead form reading held holds fault
all_broken form reading player held mid holds fault takes ends text start h =
    breaks_as form reading text start held holds (length (h.front ++ [] ∷ [])) fault h (length_push h.front []) (ends form (h.front ++ [] ∷ []) start (takes h.front start h.stands))

-- ---- lines that end among the bytes of one read

-- where nothing is held, a line is what was read of it
pub held_none : (held end : List ℕ) → length held ≡ 0 → end ≡ held ++ end
held_none [] end e = refl
held_none (b ∷ held) end e = absurd (omega (arith, e))

-- what is read behind these bytes goes on from there
abbrev pub Reaches : Form → Reading → Reading → List ℕ → Option (List ℕ) → Option (List ℕ) → Type 0
Reaches form old now done held mid = (text : List ℕ) → (start : Option (List ℕ)) → ReadingStands form old text start held → ReadingStands form now (text ++ done) start mid

cut_whole : (bytes done rest end after : List ℕ) → bytes ≡ done ++ rest → IsCut rest end after → bytes ≡ done ++ (end ++ 10 ∷ after)
cut_whole bytes done rest end after parts cut = parts ∙ ap (λ (t : List ℕ). done ++ t) cut.parts

pub cut_size : (rest end after : List ℕ) → IsCut rest end after → length rest ≡ length end + (length after + 1)
cut_size rest end after cut =
    let size : length rest ≡ length end + length (10 ∷ after) = ap (λ (t : List ℕ). length t) cut.parts ∙ length-append end (10 ∷ after) in
    omega (arith, size)

-- the next line ends
pub line_more : (form : Form) → (old now next : Reading) (done rest end after : List ℕ) (held mid holds : Option (List ℕ)) → Reaches form old now done held mid → IsCut rest end after →
    TakesLine form now.player next.player (now.held.items ++ end) mid holds → next.held.items ≡ [] → Reaches form old next (done ++ (end ++ 10 ∷ [])) held holds
line_more form old now next done rest end after held mid holds reaches cut takes empty text start h =
    subst (λ (t : List ℕ). ReadingStands form next t start holds) (append_assoc text done (end ++ 10 ∷ []))
    (line_taken_whole form now next (text ++ done) end start mid holds (reaches text start h) cut.whole takes empty)

pub line_parts : (bytes done rest end after : List ℕ) → bytes ≡ done ++ rest → IsCut rest end after → bytes ≡ (done ++ (end ++ 10 ∷ [])) ++ after
line_parts bytes done rest end after parts cut =
    cut_whole bytes done rest end after parts cut
    ∙ ap (λ (t : List ℕ). done ++ t) (sym (append_assoc end (10 ∷ []) after))
    ∙ sym (append_assoc done (end ++ 10 ∷ []) after)

-- the script stops at it
pub line_stops : (form : Form) → (old now : Reading) (bytes done rest end after : List ℕ) (held mid holds : Option (List ℕ)) (fault : ScriptFault) → Reaches form old now done held mid → bytes ≡ done ++ rest → IsCut rest end after → length bytes ≤ 4096 →
    StopsAtLine form now.player (now.held.items ++ end) mid holds fault → StopsInBytes form old bytes held holds fault
line_stops form old now bytes done rest end after held mid holds fault reaches parts cut few stops text start h =
    let whole = cut_whole bytes done rest end after parts cut in
    let size : length bytes ≡ length done + length rest = ap (λ (t : List ℕ). length t) parts ∙ length-append done rest in
    let ahead : length after ≤ 4095 = omega (arith, few, size, cut_size rest end after cut) in
    subst (λ (t : List ℕ). Halts form t start holds fault) (append_assoc text done (end ++ 10 ∷ after) ∙ ap (λ (t : List ℕ). text ++ t) (sym whole))
    (line_halts form now (text ++ done) end after start mid holds fault (reaches text start h) cut.whole ahead stops)

-- no further line ends
read_whole : (text bytes done rest : List ℕ) → bytes ≡ done ++ rest → (text ++ done) ++ rest ≡ text ++ bytes
read_whole text bytes done rest parts = append_assoc text done rest ∙ ap (λ (t : List ℕ). text ++ t) (sym parts)

pub long_stops_in : (form : Form) → (old now : Reading) (bytes done rest : List ℕ) (held mid holds : Option (List ℕ)) (fault : ScriptFault) → Reaches form old now done held mid → bytes ≡ done ++ rest → EndsNoLine rest → 8192 < length (now.held.items ++ rest) →
    StopsAtLong now.player mid holds fault → StopsInBytes form old bytes held holds fault
long_stops_in form old now bytes done rest held mid holds fault reaches parts whole long stops text start h =
    subst (λ (t : List ℕ). Halts form t start holds fault) (read_whole text bytes done rest parts)
    (long_halts form now (text ++ done) rest start mid holds fault (reaches text start h) whole long stops)

-- these bytes are held then
pub record Held (now next : Reading) (rest : List ℕ) : Type 0 where
  pub whole : EndsNoLine rest
  pub holds : next.held.items ≡ now.held.items ++ rest
  pub fits : length (now.held.items ++ rest) ≤ 8192

pub are_held : (now next : Reading) (rest : List ℕ) → EndsNoLine rest → next.held.items ≡ now.held.items ++ rest → length now.held.items + length rest ≤ 8192 → Held now next rest
are_held now next rest whole holds fits = record { whole = whole; holds = holds; fits = omega (arith, fits, length-append now.held.items rest) }

reached : (form : Form) → (old now next : Reading) (bytes done rest : List ℕ) (held mid : Option (List ℕ)) → Reaches form old now done held mid → bytes ≡ done ++ rest → Held now next rest → Reaches form old (record now { held = next.held }) bytes held mid
reached form old now next bytes done rest held mid reaches parts h text start stands =
    subst (λ (t : List ℕ). ReadingStands form (record now { held = next.held }) t start mid) (read_whole text bytes done rest parts)
    (bytes_held form now (record now { held = next.held }) (text ++ done) rest start mid (reaches text start stands) h.whole refl h.holds h.fits)

pub bytes_taken : (form : Form) → (old now next : Reading) (bytes done rest : List ℕ) (held mid holds : Option (List ℕ)) → Reaches form old now done held mid → bytes ≡ done ++ rest → Held now next rest → Flushes now.player next.player mid holds → TakesBytes form old next bytes held holds
bytes_taken form old now next bytes done rest held mid holds reaches parts h flushes text start stands =
    reading_flushed form (record now { held = next.held }) next (text ++ bytes) start mid holds (reached form old now next bytes done rest held mid reaches parts h text start stands) flushes refl

pub bytes_lost : (form : Form) → (old now next : Reading) (bytes done rest : List ℕ) (held mid holds : Option (List ℕ)) (fault : ScriptFault) → Reaches form old now done held mid → bytes ≡ done ++ rest → Held now next rest → LosesAnswer now.player mid holds fault → StopsInBytes form old bytes held holds fault
bytes_lost form old now next bytes done rest held mid holds fault reaches parts h loses text start stands =
    lost_halts form (record now { held = next.held }) (text ++ bytes) start mid holds fault (reached form old now next bytes done rest held mid reaches parts h text start stands) loses

-- ---- what a reader gave

pub consumes_more : (input left rest : Option (List ℕ)) (text more : List ℕ) → Consumes input left text → Consumes left rest more → Consumes input rest (text ++ more)
consumes_more None left rest text more h g = tt
consumes_more (Some bytes) None rest text more h g = absurd h
consumes_more (Some bytes) (Some others) None text more h g = absurd g
consumes_more (Some bytes) (Some others) (Some last) text more h g = h ∙ ap (λ (t : List ℕ). text ++ t) g ∙ sym (append_assoc text more last)

consumes_kept : (input left rest : Option (List ℕ)) (text : List ℕ) → Consumes input left text → Keeps left rest → Consumes input rest text
consumes_kept None left rest text h g = tt
consumes_kept (Some bytes) None rest text h g = absurd h
consumes_kept (Some bytes) (Some others) None text h g = absurd g
consumes_kept (Some bytes) (Some others) (Some last) text h g = h ∙ ap (λ (t : List ℕ). text ++ t) (sym g)

pub kept : (known : Option (List ℕ)) → Keeps known known
kept None = tt
kept (Some bytes) = refl

consumes_all : (input left rest : Option (List ℕ)) (text buffer : List ℕ) (n : ℕ) → n ≡ 0 → Consumes input left text → Consumes left rest (take n buffer) → Consumes input rest text
consumes_all input left rest text buffer n e h g =
    subst (λ (t : List ℕ). Consumes input rest t) (ap (λ (m : ℕ). text ++ take m buffer) e ∙ append-nil text) (consumes_more input left rest text (take n buffer) h g)

pub plays_all : (form : Form) → (reading : Reading) (input left rest start held holds : Option (List ℕ)) (text buffer : List ℕ) (n : ℕ) (summary : Summary) → n ≡ 0 → Consumes input left text → Consumes left rest (take n buffer) → (n ≡ 0 → IsAtEnd rest) → ReadingStands form reading text start held →
    EndsRead form reading held holds summary → PlaysInput form input rest start holds summary
plays_all form reading input left rest start held holds text buffer n summary e h g ended stands plays = record {
  text = text;
  read = consumes_all input left rest text buffer n e h g;
  ended = ended e;
  whole = plays text start stands;
}

pub stops_at_end : (form : Form) → (reading : Reading) (input left rest start held holds : Option (List ℕ)) (text buffer : List ℕ) (n : ℕ) (fault : ScriptFault) → n ≡ 0 → Consumes input left text → Consumes left rest (take n buffer) → (n ≡ 0 → IsAtEnd rest) → ReadingStands form reading text start held →
    StopsRead form reading held holds fault → StopsInput form input rest start holds fault
stops_at_end form reading input left rest start held holds text buffer n fault e h g ended stands stops = record {
  text = text;
  read = consumes_all input left rest text buffer n e h g;
  stops = inl (record { ended = ended e; stopped = stops text start stands });
}

pub stops_within : (form : Form) → (reading : Reading) (input left rest start held holds : Option (List ℕ)) (text more : List ℕ) (fault : ScriptFault) → Consumes input left text → Consumes left rest more → ReadingStands form reading text start held →
    StopsInBytes form reading more held holds fault → StopsInput form input rest start holds fault
stops_within form reading input left rest start held holds text more fault h g stands stops = record {
  text = text ++ more;
  read = consumes_more input left rest text more h g;
  stops = inr (inr (stops text start stands));
}

pub breaks_off : (form : Form) → (reading : Reading) (input left rest start held holds : Option (List ℕ)) (text : List ℕ) (fault : ScriptFault) → Consumes input left text → Keeps left rest → ReadingStands form reading text start held →
    BreaksRead form reading held holds fault → StopsInput form input rest start holds fault
breaks_off form reading input left rest start held holds text fault h g stands breaks = record {
  text = text;
  read = consumes_kept input left rest text h g;
  stops = inr (inl (breaks text start stands));
}
