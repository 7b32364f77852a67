-- A text is read line by line.
use Rattle.std.proofs.Common.{◌≡◌, ◌≤◌, ℕ, true, false, cond, List, [], ◌∷◌, ◌++◌, refl, sym, ap, subst, ◌∙◌}
use Rattle.std.proofs.lemmas.List.{append-nil}
use Rattle.std.proofs.lemmas.List.Elements.{All-push}
use Rattle.std.specs.Prelude.{Result, Ok, Err}
use Rattle.std.specs.List.{flat_map}
use Rattle.am_lines.specs.{Line, lines_from, Statement, words_of, begins_with, statement_of, statement_of_words, statements_from}
use Rattle.am_master.specs.{MasterFault, MasterFaultKind, Point, rows_read, row_read, row_of, with_row, once, served_read, AreRows, StandWithin, added, line_added, point_read}
use Rattle.am_master.specs.MasterRow.{MasterRow}
use Rattle.am_master.specs.Grammar.{ServedPoint}

row_goes : (number : ℕ) (above new : List MasterRow) (read : Result MasterRow MasterFaultKind) (below : List MasterRow → Result (List MasterRow) MasterFault) → added above read ≡ Ok new → with_row number above read below ≡ below new
row_goes number above new (Ok row) below e =
    let is : above ++ row ∷ [] ≡ new = cc in
    ap below is
row_goes number above new (Err kind) below e = absurd cc

row_stops : (number : ℕ) (above : List MasterRow) (kind : MasterFaultKind) (read : Result MasterRow MasterFaultKind) (below : List MasterRow → Result (List MasterRow) MasterFault) → added above read ≡ Err kind → with_row number above read below ≡ Err (record { line = number; kind = kind })
row_stops number above kind (Ok row) below e = absurd cc
row_stops number above kind (Err fault) below e =
    let is : fault ≡ kind = cc in
    ap (λ (f : MasterFaultKind). Err (record { line = number; kind = f })) is

nothing_goes : (above new : List MasterRow) (others : List Statement) → ◌≡◌ {A = Result (List MasterRow) MasterFaultKind} (Ok above) (Ok new) → rows_read above others ≡ rows_read new others
nothing_goes above new others e =
    let is : above ≡ new = cc in
    ap (λ (rows : List MasterRow). rows_read rows others) is

-- no statement or one
statement_goes : (number : ℕ) (above new : List MasterRow) (ws : List (List ℕ)) (others : List Statement) → line_added above (statement_of_words number ws) ≡ Ok new → rows_read above (statement_of_words number ws ++ others) ≡ rows_read new others
statement_goes number above new [] others e = nothing_goes above new others e
statement_goes number above new (first ∷ ws) others e =
    let line : Statement = record { number = number; first = first; others = ws } in
    elim (begins_with 35 first) as (λ b. line_added above (cond b [] (line ∷ [])) ≡ Ok new → rows_read above (cond b [] (line ∷ []) ++ others) ≡ rows_read new others) [
      | true ↦ λ same. nothing_goes above new others same
      | false ↦ λ read. row_goes number above new (row_read above line) (λ rows. rows_read rows others) read
    ] e

nothing_stops : (above : List MasterRow) (kind : MasterFaultKind) → ◌≡◌ {A = Result (List MasterRow) MasterFaultKind} (Ok above) (Err kind) → ⊥
nothing_stops above kind e = cc

statement_stops : (number : ℕ) (above : List MasterRow) (kind : MasterFaultKind) (ws : List (List ℕ)) (others : List Statement) → line_added above (statement_of_words number ws) ≡ Err kind → rows_read above (statement_of_words number ws ++ others) ≡ Err (record { line = number; kind = kind })
statement_stops number above kind [] others e = absurd (nothing_stops above kind e)
statement_stops number above kind (first ∷ ws) others e =
    let line : Statement = record { number = number; first = first; others = ws } in
    elim (begins_with 35 first) as (λ b. line_added above (cond b [] (line ∷ [])) ≡ Err kind → rows_read above (cond b [] (line ∷ []) ++ others) ≡ Err (record { line = number; kind = kind })) [
      | true ↦ λ same. absurd (nothing_stops above kind same)
      | false ↦ λ read. row_stops number above kind (row_read above line) (λ rows. rows_read rows others) read
    ] e

pub line_goes : (number : ℕ) (above new : List MasterRow) (text bytes : List ℕ) (lines : List Line) → lines_from number text ≡ record { number = number; bytes = bytes } ∷ lines → line_added above (statement_of_words number (words_of bytes)) ≡ Ok new →
    rows_read above (statements_from number text) ≡ rows_read new (flat_map statement_of lines)
line_goes number above new text bytes lines cut e =
    ap (λ (all : List Line). rows_read above (flat_map statement_of all)) cut ∙ statement_goes number above new (words_of bytes) (flat_map statement_of lines) e

pub line_stops : (number : ℕ) (above : List MasterRow) (kind : MasterFaultKind) (text bytes : List ℕ) (lines : List Line) → lines_from number text ≡ record { number = number; bytes = bytes } ∷ lines → line_added above (statement_of_words number (words_of bytes)) ≡ Err kind →
    rows_read above (statements_from number text) ≡ Err (record { line = number; kind = kind })
line_stops number above kind text bytes lines cut e =
    ap (λ (all : List Line). rows_read above (flat_map statement_of all)) cut ∙ statement_stops number above kind (words_of bytes) (flat_map statement_of lines) e

-- ---- the lines on which rows stand

row_stands : (number last : ℕ) (point : Result Point MasterFaultKind) (s : Result ServedPoint MasterFaultKind) (above new : List MasterRow) → added above (row_of number point s) ≡ Ok new → number ≤ last → StandWithin last above → StandWithin last new
row_stands number last (Ok point) (Ok s) above new e h stand =
    let row : MasterRow = record { point = point; map = s.map; timeout = s.timeout; line = number } in
    let is : above ++ row ∷ [] ≡ new = cc in
    subst (StandWithin last) is (All-push (λ (r : MasterRow). r.line ≤ last) above row stand h)
row_stands number last (Ok point) (Err fault) above new e h stand = absurd cc
row_stands number last (Err fault) s above new e h stand = absurd cc

nothing_stands : (last : ℕ) (above new : List MasterRow) → ◌≡◌ {A = Result (List MasterRow) MasterFaultKind} (Ok above) (Ok new) → StandWithin last above → StandWithin last new
nothing_stands last above new e stand =
    let is : above ≡ new = cc in
    subst (StandWithin last) is stand

pub line_stands : (number last : ℕ) (above new : List MasterRow) (ws : List (List ℕ)) → line_added above (statement_of_words number ws) ≡ Ok new → number ≤ last → StandWithin last above → StandWithin last new
line_stands number last above new [] e h stand = nothing_stands last above new e stand
line_stands number last above new (first ∷ ws) e h stand =
    let line : Statement = record { number = number; first = first; others = ws } in
    elim (begins_with 35 first) as (λ b. line_added above (cond b [] (line ∷ [])) ≡ Ok new → StandWithin last new) [
      | true ↦ λ same. nothing_stands last above new same stand
      | false ↦ λ read. row_stands number last (once above (point_read first)) (served_read ws) above new read h stand
    ] e

-- ---- lines that are rows

-- these lines are read as these rows
abbrev pub AreReadAs : List MasterRow → List Statement → Type 0
AreReadAs rows lines = rows_read [] lines ≡ Ok rows

pub are_rows : (rows : List MasterRow) (lines : List Statement) → AreReadAs rows lines →
    AreRows lines
are_rows rows lines e = rw e refl

with_more : (number : ℕ) (start above : List MasterRow) (read : Result MasterRow MasterFaultKind)
    (lines more : List Statement) →
    ((rows : List MasterRow) → rows_read rows lines ≡ Ok above →
    rows_read rows (lines ++ more) ≡ rows_read above more) →
    with_row number start read (λ rows. rows_read rows lines) ≡ Ok above →
    with_row number start read (λ rows. rows_read rows (lines ++ more)) ≡ rows_read above more
with_more number start above (Ok row) lines more goes e = goes (start ++ row ∷ []) e
with_more number start above (Err kind) lines more goes e = absurd cc

read_more : (start above : List MasterRow) (lines more : List Statement) →
    rows_read start lines ≡ Ok above → rows_read start (lines ++ more) ≡ rows_read above more
read_more start above [] more e =
    let is : start ≡ above = cc in
    ap (λ (rows : List MasterRow). rows_read rows more) is
read_more start above (line ∷ lines) more e =
    with_more line.number start above (row_read start line) lines more
    (λ rows h. read_more rows above lines more h) e

-- a line that adds its row, or says nothing, behind lines that are read
pub one_more : (number : ℕ) (above new : List MasterRow) (ws : List (List ℕ)) →
    line_added above (statement_of_words number ws) ≡ Ok new → (lines : List Statement) →
    AreReadAs above lines → AreReadAs new (lines ++ statement_of_words number ws)
one_more number above new ws e lines read =
    let said = statement_of_words number ws in
    read_more [] above lines said read
    ∙ ap (λ (more : List Statement). rows_read above more) (sym (append-nil said))
    ∙ statement_goes number above new ws [] e
