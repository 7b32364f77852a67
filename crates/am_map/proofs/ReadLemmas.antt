-- A text is read line by line.
use Rattle.std.proofs.Common.{◌≡◌, ℕ, true, false, cond, List, [], ◌∷◌, ◌++◌, refl, sym, ap, ◌∙◌}
use Rattle.std.specs.Prelude.{Result, Ok, Err, IsOk, fold}
use Rattle.std.specs.List.{flat_map}
use Rattle.am_lines.specs.{Line, lines_from, Statement, words_of, begins_with, statement_of, statement_of_words, statements_from}
use Rattle.am_map.specs.{MapFault, MapFaultKind, MapKind, Row, rows_read, row_read, with_row, AreRows, kept, FindsFirst, first_of_each, entry_for, row_added, added, line_added}
use Rattle.am_map.proofs.FirstLemmas.{added-first_of_each, entry_for-first_of_each}

-- the rows that are kept, and those of the lines that follow
abbrev pub behind : List Row → Result (List Row) MapFault → Result (List Row) MapFault
behind rows (Ok more) = Ok (fold row_added rows more)
behind rows (Err fault) = Err fault

row_goes : (number : ℕ) (rows new : List Row) (read : Result Row MapFaultKind) (others : Result (List Row) MapFault) → added rows read ≡ Ok new → behind rows (with_row number read others) ≡ behind new others
row_goes number rows new (Ok row) (Ok more) e =
    let is : row_added rows row ≡ new = cc in
    ap (λ (front : List Row). behind front (Ok more)) is
row_goes number rows new (Ok row) (Err fault) e = refl
row_goes number rows new (Err kind) others e = absurd cc

row_stops : (number : ℕ) (rows : List Row) (kind : MapFaultKind) (read : Result Row MapFaultKind) (others : Result (List Row) MapFault) → added rows read ≡ Err kind → behind rows (with_row number read others) ≡ Err (record { line = number; kind = kind })
row_stops number rows kind (Ok row) others e = absurd cc
row_stops number rows kind (Err fault) others e =
    let is : fault ≡ kind = cc in
    ap (λ (f : MapFaultKind). Err (record { line = number; kind = f })) is

nothing_goes : (rows new : List Row) (others : Result (List Row) MapFault) → ◌≡◌ {A = Result (List Row) MapFaultKind} (Ok rows) (Ok new) → behind rows others ≡ behind new others
nothing_goes rows new others e =
    let is : rows ≡ new = cc in
    ap (λ (front : List Row). behind front others) is

-- no statement or one
statement_goes : (of : MapKind) (number : ℕ) (rows new : List Row) (ws : List (List ℕ)) (others : List Statement) → line_added of rows (statement_of_words number ws) ≡ Ok new → behind rows (rows_read of (statement_of_words number ws ++ others)) ≡ behind new (rows_read of others)
statement_goes of number rows new [] others e = nothing_goes rows new (rows_read of others) e
statement_goes of number rows new (first ∷ ws) others e =
    let line : Statement = record { number = number; first = first; others = ws } in
    elim (begins_with 35 first) as (λ b. line_added of rows (cond b [] (line ∷ [])) ≡ Ok new → behind rows (rows_read of (cond b [] (line ∷ []) ++ others)) ≡ behind new (rows_read of others)) [
      | true ↦ λ same. nothing_goes rows new (rows_read of others) same
      | false ↦ λ read. row_goes number rows new (row_read of line) (rows_read of others) read
    ] e

nothing_stops : (rows : List Row) (kind : MapFaultKind) → ◌≡◌ {A = Result (List Row) MapFaultKind} (Ok rows) (Err kind) → ⊥
nothing_stops rows kind e = cc

statement_stops : (of : MapKind) (number : ℕ) (rows : List Row) (kind : MapFaultKind) (ws : List (List ℕ)) (others : List Statement) → line_added of rows (statement_of_words number ws) ≡ Err kind → behind rows (rows_read of (statement_of_words number ws ++ others)) ≡ Err (record { line = number; kind = kind })
statement_stops of number rows kind [] others e = absurd (nothing_stops rows kind e)
statement_stops of number rows kind (first ∷ ws) others e =
    let line : Statement = record { number = number; first = first; others = ws } in
    elim (begins_with 35 first) as (λ b. line_added of rows (cond b [] (line ∷ [])) ≡ Err kind → behind rows (rows_read of (cond b [] (line ∷ []) ++ others)) ≡ Err (record { line = number; kind = kind })) [
      | true ↦ λ same. absurd (nothing_stops rows kind same)
      | false ↦ λ read. row_stops number rows kind (row_read of line) (rows_read of others) read
    ] e

pub line_goes : (of : MapKind) (number : ℕ) (rows new : List Row) (text bytes : List ℕ) (lines : List Line) → lines_from number text ≡ record { number = number; bytes = bytes } ∷ lines → line_added of rows (statement_of_words number (words_of bytes)) ≡ Ok new →
    behind rows (rows_read of (statements_from number text)) ≡ behind new (rows_read of (flat_map statement_of lines))
line_goes of number rows new text bytes lines cut e =
    ap (λ (all : List Line). behind rows (rows_read of (flat_map statement_of all))) cut ∙ statement_goes of number rows new (words_of bytes) (flat_map statement_of lines) e

pub line_stops : (of : MapKind) (number : ℕ) (rows : List Row) (kind : MapFaultKind) (text bytes : List ℕ) (lines : List Line) → lines_from number text ≡ record { number = number; bytes = bytes } ∷ lines → line_added of rows (statement_of_words number (words_of bytes)) ≡ Err kind →
    behind rows (rows_read of (statements_from number text)) ≡ Err (record { line = number; kind = kind })
line_stops of number rows kind text bytes lines cut e =
    ap (λ (all : List Line). behind rows (rows_read of (flat_map statement_of all))) cut ∙ statement_stops of number rows kind (words_of bytes) (flat_map statement_of lines) e

-- what is kept of all rows is what a text is read as
pub read_is : (read : Result (List Row) MapFault) → behind [] read ≡ kept read
read_is (Ok rows) = ap Ok (added-first_of_each rows)
read_is (Err fault) = refl

pub finds_first : (read : Result (List Row) MapFault) (map : List Row) → kept read ≡ Ok map → FindsFirst read map
finds_first (Ok rows) map e =
    let is : first_of_each rows ≡ map = cc in
    λ (key : List ℕ). ap (λ (found : List Row). entry_for found key) (sym is) ∙ entry_for-first_of_each rows key
finds_first (Err fault) map e = absurd cc

-- ---- lines that are rows

with_good : (number : ℕ) (read : Result Row MapFaultKind) (one both : Result (List Row) MapFault) →
    IsOk (with_row number read one) → (IsOk one → IsOk both) → IsOk (with_row number read both)
with_good number (Ok row) (Ok rows) (Ok more) good goes = refl
with_good number (Ok row) (Ok rows) (Err fault) good goes = goes refl
with_good number (Ok row) (Err fault) both good goes = absurd cc
with_good number (Err kind) one both good goes = absurd cc

both_good : (of : MapKind) (above lines : List Statement) → AreRows of above → AreRows of lines →
    AreRows of (above ++ lines)
both_good of [] lines good more = more
both_good of (line ∷ above) lines good more =
    with_good line.number (row_read of line) (rows_read of above) (rows_read of (above ++ lines)) good
    (λ (rest : AreRows of above). both_good of above lines rest more)

row_good : (number : ℕ) (rows new : List Row) (read : Result Row MapFaultKind) →
    added rows read ≡ Ok new → IsOk (with_row number read (Ok []))
row_good number rows new (Ok row) e = refl
row_good number rows new (Err kind) e = absurd cc

line_good : (of : MapKind) (number : ℕ) (rows new : List Row) (ws : List (List ℕ)) →
    line_added of rows (statement_of_words number ws) ≡ Ok new →
    AreRows of (statement_of_words number ws)
line_good of number rows new [] e = refl
line_good of number rows new (first ∷ ws) e =
    let line : Statement = record { number = number; first = first; others = ws } in
    elim (begins_with 35 first) as (λ b. line_added of rows (cond b [] (line ∷ [])) ≡ Ok new → AreRows of (cond b [] (line ∷ []))) [
      | true ↦ λ same. refl
      | false ↦ λ read. row_good number rows new (row_read of line) read
    ] e

-- a line that adds its row, or says nothing, is good behind good lines
pub stay_good : (of : MapKind) (number : ℕ) (rows new : List Row) (ws : List (List ℕ)) →
    line_added of rows (statement_of_words number ws) ≡ Ok new → (above : List Statement) →
    AreRows of above → AreRows of (above ++ statement_of_words number ws)
stay_good of number rows new ws e above good =
    both_good of above (statement_of_words number ws) good (line_good of number rows new ws e)
