-- One event more is drawn.
use Rattle.std.proofs.Common.{◌≡◌, ℕ, suc, ◌+◌, List, [], ◌∷◌, ◌++◌, length, refl, sym, ap, ◌∙◌, arith, if◌then◌else◌}
use Rattle.std.specs.Prelude.{nat_lt}
use Rattle.std.proofs.lemmas.Bool.{lt-ltb}
use Rattle.am_script.specs.{owed_by}
use Rattle.am_draw.specs.{Lasts, Part, Viewed, Piece, event_piece, event_pieces, lasts_behind, next_lasts, tail_pieces, empty_picture}
use Rattle.am_draw.proofs.LostPieces.{owed_for, owed_one}

pub pieces_push : (part : Part) (number : ℕ) (lasts : Lasts) (rows : List Viewed) (row : Viewed) → event_pieces part number lasts (rows ++ row ∷ []) ≡ event_pieces part number lasts rows ++ event_piece part (number + length rows) (lasts_behind part number lasts rows) row ∷ []
pieces_push part number lasts [] row =
    let is : number ≡ number + 0 = omega arith in
    ap (λ (n : ℕ). event_piece part n lasts row ∷ []) is
pieces_push part number lasts (first ∷ rows) row =
    ap (λ (t : List Piece). event_piece part number lasts first ∷ t)
    (pieces_push part (number + 1) (next_lasts part number lasts first.asked.event first.seen first.after) rows row
    ∙ ap (λ (n : ℕ). event_pieces part (number + 1) (next_lasts part number lasts first.asked.event first.seen first.after) rows ++ event_piece part n (lasts_behind part (number + 1) (next_lasts part number lasts first.asked.event first.seen first.after) rows) row ∷ []) (omega arith))

-- the last of these events is of this line, and where there is none it is the first
abbrev pub EndsAt : ℕ → List Viewed → Type 0
EndsAt line [] = line ≡ 1
EndsAt line (row ∷ []) = line ≡ row.asked.line
EndsAt line (row ∷ next ∷ rows) = EndsAt line (next ∷ rows)

pub ends_push : (rows : List Viewed) (row : Viewed) → EndsAt row.asked.line (rows ++ row ∷ [])
ends_push [] row = refl
ends_push (first ∷ []) row = refl
ends_push (first ∷ next ∷ rows) row = ends_push (next ∷ rows) row

-- these bytes, where there are events, and else that there are none
abbrev pub if_some : ℕ → List ℕ → List ℕ
if_some events bytes = if nat_lt 0 events then bytes else empty_picture

tail_some : (n : ℕ) (bytes : List ℕ) → if_some (suc n) bytes ≡ bytes
tail_some n bytes = rw (lt-ltb 0 (suc n) (omega arith)) refl

pub tail_owed : (line : ℕ) (bytes : List ℕ) (rows : List Viewed) → EndsAt line rows → owed_for (tail_pieces bytes rows) ≡ owed_by line (if_some (length rows) bytes)
tail_owed line bytes [] h =
    owed_one (record { line = 1; bytes = empty_picture }) ∙ ap (λ (n : ℕ). owed_by n empty_picture) (sym h)
tail_owed line bytes (row ∷ []) h = rw h (owed_one (record { line = row.asked.line; bytes = bytes }))
tail_owed line bytes (row ∷ next ∷ rows) h =
    tail_owed line bytes (next ∷ rows) h
    ∙ ap (λ (t : List ℕ). owed_by line t) (tail_some (length rows) bytes ∙ sym (tail_some (suc (length rows)) bytes))
