-- A session of which lines are read in pieces.
use Rattle.std.proofs.Common.{◌≡◌, ◌≢◌, ◌≤◌, ◌<◌, ◌+◌, ℕ, Bool, true, false, List, [], ◌∷◌, ◌++◌, length, take, Option, Some, None, refl, sym, ap, subst, ◌∙◌, inl, inr, append_assoc, append-nil, arith}
use Rattle.std.specs.Io.KnownBytes.{Appends, Consumes, Keeps, IsAtEnd}
use Rattle.std.proofs.lemmas.List.{length_push}
use Rattle.std.proofs.lemmas.List.Elements.{All-nil, All-append}
use Rattle.std.proofs.lemmas.List.Splits.{length-slice_split, slice_split_none, slice_split_at}
use Rattle.am_lines.specs.{is_line_feed}
use Rattle.am_mountinfo.specs.{IsCut as IsCutText}
use Rattle.am_script.specs.{EndsNoLine, IsCut, ScriptFault, fault_at, lines_of}
use Rattle.am_script.specs.declared.fault.ScriptFaultKind.TheVariants.{ReadFailed}
use Rattle.am_script.proofs.ReadingLemmas.{consumes_more}
use Rattle.am_script.proofs.Writes.{appends_more, appends_none}
use Rattle.am_serve.specs.declared.held.Held.{Held}
use Rattle.am_serve.specs.declared.reading.Reading.{Reading}
use Rattle.am_serve.specs.declared.service.Service.{Service}
use Rattle.am_serve.specs.Keeping.{unserved}
use Rattle.am_serve.specs.Reading.{AnswersHeld, EndsServed, IsHeld, LosesAmong, LosesHeld, LosesLast, ReadingStands, TakesBytes}
use Rattle.am_serve.specs.Replies.{AreReplies}
use Rattle.am_serve.specs.Served.{AllReplied, LosesReply, ServesInput, StopsServing, before_last, ended_lines, sent_lines, unless_empty, with_last}
use Rattle.am_serve.proofs.ReplyLemmas.{replies_more}

-- ---- lines

line_ends : (line rest : List ℕ) → EndsNoLine line → lines_of (line ++ 10 ∷ rest) ≡ line ∷ lines_of rest
line_ends line rest h = slice_split_at is_line_feed line 10 rest h refl

last_line : (line : List ℕ) → EndsNoLine line → lines_of line ≡ line ∷ []
last_line line h = slice_split_none is_line_feed line h

some_lines : (text : List ℕ) → lines_of text ≢ []
some_lines text none = omega (arith, length-slice_split is_line_feed text, ap (λ (t : List (List ℕ)). length t) none)

before_push : (lines : List (List ℕ)) (line : List ℕ) → before_last (lines ++ line ∷ []) ≡ lines
before_push [] line = refl
before_push (first ∷ []) line = refl
before_push (first ∷ second ∷ lines) line = ap (λ (t : List (List ℕ)). first ∷ t) (before_push (second ∷ lines) line)

last_push : (lines : List (List ℕ)) (line : List ℕ) → with_last (lines ++ line ∷ []) ≡ lines ++ unless_empty line
last_push [] line = refl
last_push (first ∷ []) line = refl
last_push (first ∷ second ∷ lines) line = ap (λ (t : List (List ℕ)). first ∷ t) (last_push (second ∷ lines) line)

-- a line behind which there are others is sent
past_push : (front : List (List ℕ)) (line : List ℕ) (lines : List (List ℕ)) → lines ≢ [] → with_last (front ++ line ∷ lines) ≡ front ++ line ∷ with_last lines
past_push [] line [] some = absurd (some refl)
past_push [] line (next ∷ lines) some = refl
past_push (first ∷ []) line lines some = ap (λ (t : List (List ℕ)). first ∷ t) (past_push [] line lines some)
past_push (first ∷ second ∷ front) line lines some = ap (λ (t : List (List ℕ)). first ∷ t) (past_push (second ∷ front) line lines some)

some_sent : (line : List ℕ) → line ≢ [] → unless_empty line ≡ line ∷ []
some_sent [] some = absurd (some refl)
some_sent (b ∷ line) some = refl

-- ---- what was read

-- bytes behind what was read, from the beginning of its last line
behind_begun : (text whole begun end more : List ℕ) → text ≡ whole ++ begun → text ++ (end ++ more) ≡ whole ++ ((begun ++ end) ++ more)
behind_begun text whole begun end more e =
    ap (λ (t : List ℕ). t ++ (end ++ more)) e ∙ append_assoc whole begun (end ++ more) ∙ ap (λ (t : List ℕ). whole ++ t) (sym (append_assoc begun end more))

-- the lines of what was read
lines_read : (reading : Reading) (text : List ℕ) (start held : Option (List ℕ)) (h : ReadingStands reading text start held) → lines_of text ≡ h.front ++ h.begun ∷ []
lines_read reading text start held h =
    ap lines_of h.parts ∙ h.splits h.begun ∙ ap (λ (t : List (List ℕ)). h.front ++ t) (last_line h.begun h.cut)

-- and of what ends a line, with more behind it
lines_past : (reading : Reading) (text end rest : List ℕ) (start held : Option (List ℕ)) (h : ReadingStands reading text start held) → EndsNoLine end → lines_of (text ++ (end ++ 10 ∷ rest)) ≡ h.front ++ (h.begun ++ end) ∷ lines_of rest
lines_past reading text end rest start held h whole =
    ap lines_of (behind_begun text h.whole h.begun end (10 ∷ rest) h.parts)
    ∙ h.splits ((h.begun ++ end) ++ 10 ∷ rest)
    ∙ ap (λ (t : List (List ℕ)). h.front ++ t) (line_ends (h.begun ++ end) rest (All-append (λ (b : ℕ). is_line_feed b ≡ false) h.begun end h.cut whole))

-- nothing is read yet
pub none_read : (reading : Reading) (start : Option (List ℕ)) → reading.service ≡ unserved → reading.number ≡ 0 → IsHeld reading.held [] → ReadingStands reading [] start start
none_read reading start new zero held = record {
  front = [];
  whole = [];
  begun = [];
  parts = refl;
  splits = λ rest. refl;
  cut = All-nil (λ (b : ℕ). is_line_feed b ≡ false);
  keeps = held;
  number = zero;
  replies = [];
  replied = (new, refl);
  written = appends_none start;
}

-- what is held goes on with these bytes
abbrev pub Holds : Held → Held → List ℕ → Type 0
Holds old new bytes = (begun : List ℕ) → IsHeld old begun → IsHeld new (begun ++ bytes)

-- a line ends, and is answered
line_answered : (now next : Reading) (kept : Held) (text end : List ℕ) (start held holds : Option (List ℕ)) → ReadingStands now text start held → EndsNoLine end → Holds now.held kept end → AnswersHeld (record now { held = kept }) next held holds → ReadingStands next (text ++ (end ++ 10 ∷ [])) start holds
line_answered now next kept text end start held holds h whole hold answers =
    let line = h.begun ++ end in
    let sends = answers.sends line (hold h.begun h.keeps) in
    record {
      front = h.front ++ line ∷ [];
      whole = h.whole ++ (line ++ 10 ∷ []);
      begun = [];
      parts = behind_begun text h.whole h.begun end (10 ∷ []) h.parts ∙ sym (append-nil (h.whole ++ (line ++ 10 ∷ [])));
      splits = λ rest. ap lines_of (append_assoc h.whole (line ++ 10 ∷ []) rest ∙ ap (λ (t : List ℕ). h.whole ++ t) (append_assoc line (10 ∷ []) rest))
          ∙ h.splits (line ++ 10 ∷ rest)
          ∙ ap (λ (t : List (List ℕ)). h.front ++ t) (line_ends line rest (All-append (λ (b : ℕ). is_line_feed b ≡ false) h.begun end h.cut whole))
          ∙ sym (append_assoc h.front (line ∷ []) (lines_of rest));
      cut = All-nil (λ (b : ℕ). is_line_feed b ≡ false);
      keeps = answers.clear;
      number = answers.number ∙ ap (λ (n : ℕ). n + 1) h.number ∙ sym (length_push h.front line);
      replies = h.replies ++ sends.text;
      replied = replies_more unserved now.service next.service h.front line h.replies sends.text h.replied sends.reply;
      written = appends_more start held holds h.replies sends.text h.written sends.written;
    }

-- bytes are held
bytes_held : (now : Reading) (kept : Held) (text bytes : List ℕ) (start held : Option (List ℕ)) → ReadingStands now text start held → EndsNoLine bytes → Holds now.held kept bytes → ReadingStands (record now { held = kept }) (text ++ bytes) start held
bytes_held now kept text bytes start held h whole hold = record {
  front = h.front;
  whole = h.whole;
  begun = h.begun ++ bytes;
  parts = ap (λ (t : List ℕ). t ++ bytes) h.parts ∙ append_assoc h.whole h.begun bytes;
  splits = h.splits;
  cut = All-append (λ (b : ℕ). is_line_feed b ≡ false) h.begun bytes h.cut whole;
  keeps = hold h.begun h.keeps;
  number = h.number;
  replies = h.replies;
  replied = h.replied;
  written = h.written;
}

-- the lines that were read whole are answered
abbrev all_replied : (now : Reading) (text : List ℕ) (start held : Option (List ℕ)) (h : ReadingStands now text start held) → AllReplied h.front start held
all_replied now text start held h = record { last = now.service; text = h.replies; replies = h.replied; written = h.written }

-- the reply to a line that ends is lost
line_lost : (now : Reading) (kept : Held) (text end rest : List ℕ) (start held holds : Option (List ℕ)) (fault : ScriptFault) → ReadingStands now text start held → EndsNoLine end → Holds now.held kept end → LosesHeld (record now { held = kept }) held holds fault → LosesReply (text ++ (end ++ 10 ∷ rest)) start holds fault
line_lost now kept text end rest start held holds fault h whole hold loses =
    let line = h.begun ++ end in
    let lost = loses line (hold h.begun h.keeps) in
    record {
      lines = h.front;
      line = line;
      others = with_last (lines_of rest);
      parts = ap with_last (lines_past now text end rest start held h whole) ∙ past_push h.front line (lines_of rest) (some_lines rest);
      mid = held;
      replied = all_replied now text start held h;
      last = lost.0;
      reply = lost.1.text;
      is = lost.1.reply;
      cut = subst (λ (n : ℕ). IsCutText (n + 1) lost.1.text held holds fault) h.number lost.1.cut;
    }

-- ---- lines that end among the bytes of one read

-- what is read behind these bytes goes on from there
abbrev pub Reaches : Reading → Reading → List ℕ → Option (List ℕ) → Option (List ℕ) → Type 0
Reaches old now done held mid = (text : List ℕ) → (start : Option (List ℕ)) → ReadingStands old text start held → ReadingStands now (text ++ done) start mid

pub reaches_none : (old : Reading) (held : Option (List ℕ)) → Reaches old old [] held held
reaches_none old held text start h = subst (λ (t : List ℕ). ReadingStands old t start held) (sym (append-nil text)) h

-- the next line ends
pub line_more : (old now next : Reading) (kept : Held) (done rest end after : List ℕ) (held mid holds : Option (List ℕ)) → Reaches old now done held mid → IsCut rest end after → Holds now.held kept end →
    AnswersHeld (record now { held = kept }) next mid holds → Reaches old next (done ++ (end ++ 10 ∷ [])) held holds
line_more old now next kept done rest end after held mid holds reaches cut hold answers text start h =
    subst (λ (t : List ℕ). ReadingStands next t start holds) (append_assoc text done (end ++ 10 ∷ []))
    (line_answered now next kept (text ++ done) end start mid holds (reaches text start h) cut.whole hold answers)

-- its reply is lost
pub line_stops : (old now : Reading) (kept : Held) (bytes done rest end after : List ℕ) (held mid holds : Option (List ℕ)) (fault : ScriptFault) → Reaches old now done held mid → bytes ≡ done ++ rest → IsCut rest end after → Holds now.held kept end →
    LosesHeld (record now { held = kept }) mid holds fault → LosesAmong old bytes held holds fault
line_stops old now kept bytes done rest end after held mid holds fault reaches parts cut hold loses text start h =
    let whole : bytes ≡ done ++ (end ++ 10 ∷ after) = parts ∙ ap (λ (t : List ℕ). done ++ t) cut.parts in
    subst (λ (t : List ℕ). LosesReply t start holds fault) (append_assoc text done (end ++ 10 ∷ after) ∙ ap (λ (t : List ℕ). text ++ t) (sym whole))
    (line_lost now kept (text ++ done) end after start mid holds fault (reaches text start h) cut.whole hold loses)

-- no further line ends
pub bytes_taken : (old now : Reading) (kept : Held) (bytes done rest : List ℕ) (held mid : Option (List ℕ)) → Reaches old now done held mid → bytes ≡ done ++ rest → EndsNoLine rest → Holds now.held kept rest → TakesBytes old (record now { held = kept }) bytes held mid
bytes_taken old now kept bytes done rest held mid reaches parts whole hold text start h =
    subst (λ (t : List ℕ). ReadingStands (record now { held = kept }) t start mid) (append_assoc text done rest ∙ ap (λ (t : List ℕ). text ++ t) (sym parts))
    (bytes_held now kept (text ++ done) rest start mid (reaches text start h) whole hold)

-- ---- no byte follows

-- no line has begun
pub ends_none : (reading : Reading) (held : Option (List ℕ)) → ((begun : List ℕ) → IsHeld reading.held begun → begun ≡ []) → EndsServed reading held held
ends_none reading held empty text start h =
    let sent : sent_lines text ≡ h.front =
    ap with_last (lines_read reading text start held h) ∙ last_push h.front h.begun
    ∙ ap (λ (t : List ℕ). h.front ++ unless_empty t) (empty h.begun h.keeps) ∙ append-nil h.front in
    subst (λ (t : List (List ℕ)). AllReplied t start held) (sym sent) (all_replied reading text start held h)

-- the last one is sent
sent_last : (reading : Reading) (text : List ℕ) (start held : Option (List ℕ)) (h : ReadingStands reading text start held) → h.begun ≢ [] → sent_lines text ≡ h.front ++ h.begun ∷ []
sent_last reading text start held h some =
    ap with_last (lines_read reading text start held h) ∙ last_push h.front h.begun
    ∙ ap (λ (t : List (List ℕ)). h.front ++ t) (some_sent h.begun some)

pub ends_last : (reading next : Reading) (held holds : Option (List ℕ)) → ((begun : List ℕ) → IsHeld reading.held begun → begun ≢ []) → AnswersHeld reading next held holds → EndsServed reading held holds
ends_last reading next held holds some answers text start h =
    let sends = answers.sends h.begun h.keeps in
    subst (λ (t : List (List ℕ)). AllReplied t start holds) (sym (sent_last reading text start held h (some h.begun h.keeps))) (record {
      last = next.service;
      text = h.replies ++ sends.text;
      replies = replies_more unserved reading.service next.service h.front h.begun h.replies sends.text h.replied sends.reply;
      written = appends_more start held holds h.replies sends.text h.written sends.written;
    })

pub loses_last : (reading : Reading) (held holds : Option (List ℕ)) (fault : ScriptFault) → ((begun : List ℕ) → IsHeld reading.held begun → begun ≢ []) → LosesHeld reading held holds fault → LosesLast reading held holds fault
loses_last reading held holds fault some loses text start h =
    let lost = loses h.begun h.keeps in
    record {
      lines = h.front;
      line = h.begun;
      others = [];
      parts = sent_last reading text start held h (some h.begun h.keeps);
      mid = held;
      replied = all_replied reading text start held h;
      last = lost.0;
      reply = lost.1.text;
      is = lost.1.reply;
      cut = subst (λ (n : ℕ). IsCutText (n + 1) lost.1.text held holds fault) h.number lost.1.cut;
    }

-- ---- what a reader gave

consumes_kept : (input left rest : Option (List ℕ)) (text : List ℕ) → Consumes input left text → Keeps left rest → Consumes input rest text
consumes_kept None left rest text h g = tt
consumes_kept (Some bytes) None rest text h g = absurd h
consumes_kept (Some bytes) (Some others) None text h g = absurd g
consumes_kept (Some bytes) (Some others) (Some last) text h g = h ∙ ap (λ (t : List ℕ). text ++ t) (sym g)

consumes_all : (input left rest : Option (List ℕ)) (text buffer : List ℕ) (n : ℕ) → n ≡ 0 → Consumes input left text → Consumes left rest (take n buffer) → Consumes input rest text
consumes_all input left rest text buffer n e h g =
    subst (λ (t : List ℕ). Consumes input rest t) (ap (λ (m : ℕ). text ++ take m buffer) e ∙ append-nil text) (consumes_more input left rest text (take n buffer) h g)

pub serves_all : (reading : Reading) (input left rest start held holds : Option (List ℕ)) (text buffer : List ℕ) (n : ℕ) → n ≡ 0 → Consumes input left text → Consumes left rest (take n buffer) → (n ≡ 0 → IsAtEnd rest) → ReadingStands reading text start held →
    EndsServed reading held holds → ServesInput input rest start holds
serves_all reading input left rest start held holds text buffer n e h g ended stands ends = record {
  text = text;
  read = consumes_all input left rest text buffer n e h g;
  ended = ended e;
  replied = ends text start stands;
}

pub stops_at_end : (reading : Reading) (input left rest start held holds : Option (List ℕ)) (text buffer : List ℕ) (n : ℕ) (fault : ScriptFault) → n ≡ 0 → Consumes input left text → Consumes left rest (take n buffer) → ReadingStands reading text start held →
    LosesLast reading held holds fault → StopsServing input rest start holds fault
stops_at_end reading input left rest start held holds text buffer n fault e h g stands loses = record {
  text = text;
  read = consumes_all input left rest text buffer n e h g;
  stops = inr (loses text start stands);
}

pub stops_within : (reading : Reading) (input left rest start held holds : Option (List ℕ)) (text more : List ℕ) (fault : ScriptFault) → Consumes input left text → Consumes left rest more → ReadingStands reading text start held →
    LosesAmong reading more held holds fault → StopsServing input rest start holds fault
stops_within reading input left rest start held holds text more fault h g stands loses = record {
  text = text ++ more;
  read = consumes_more input left rest text more h g;
  stops = inr (loses text start stands);
}

pub breaks_off : (reading : Reading) (input left rest start held : Option (List ℕ)) (text : List ℕ) (fault : ScriptFault) → Consumes input left text → Keeps left rest → (stands : ReadingStands reading text start held) → fault ≡ fault_at (reading.number + 1) ReadFailed → StopsServing input rest start held fault
breaks_off reading input left rest start held text fault h g stands is =
    let ended : ended_lines text ≡ stands.front = ap before_last (lines_read reading text start held stands) ∙ before_push stands.front stands.begun in
    record {
      text = text;
      read = consumes_kept input left rest text h g;
      stops = inl (record {
        told = is ∙ ap (λ (n : ℕ). fault_at (n + 1) ReadFailed) (stands.number ∙ sym (ap (λ (t : List (List ℕ)). length t) ended));
        replied = subst (λ (t : List (List ℕ)). AllReplied t start held) (sym ended) (all_replied reading text start held stands);
      });
    }
