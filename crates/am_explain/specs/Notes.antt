-- Slips that people meet most, told by a line of their own: own choice (docs/FORMATS.md, "Below a
-- fault").
use Rattle.std.specs.Prelude.{ℕ, ◌+◌, ◌-◌, ◌==◌, Bool, false, not, ◌&&◌, List, [], ◌∷◌, codes, decimal, bytes_eq, length, take, drop, Option, None, Some, if◌then◌else◌}
use Rattle.std.specs.List.{flat_map}
use Rattle.am_lines.specs.{words_of}
use Rattle.am_explain.specs.declared.note.Note.{Note}
use Rattle.am_explain.specs.declared.note.Note.TheVariants.{ByteOrderMark, CarriageReturn, PaddedEnd}

-- the line begins with the byte order mark of UTF-8
abbrev pub begins_with_mark : List ℕ → Bool
begins_with_mark line = bytes_eq (take 3 line) (239 ∷ 187 ∷ 191 ∷ [])

-- the line ends in a carriage return
abbrev pub ends_in_return : List ℕ → Bool
ends_in_return line = bytes_eq (drop (length line - 1) line) (13 ∷ [])

-- `end` is the one word
abbrev pub is_end_alone : List (List ℕ) → Bool
is_end_alone (word ∷ []) = bytes_eq word (codes "end")
is_end_alone words = false

-- the line is `end` with a blank beside it
abbrev pub is_padded_end : List ℕ → Bool
is_padded_end line = is_end_alone (words_of line) && not (bytes_eq line (codes "end"))

-- the first of these lines, counted from this number on, that is `end` with a blank beside it
abbrev pub padded_end : ℕ → List (List ℕ) → Option Note
padded_end number [] = None
padded_end number (line ∷ below) =
    if is_padded_end line then Some (PaddedEnd number) else padded_end (number + 1) below

-- What may have gone wrong with the file in which a fault is told at the first of these lines, which
-- has this number. Where a section has no end, one may stand below.
abbrev pub note_of : ℕ → List (List ℕ) → Bool → Option Note
note_of number [] has_no_end = None
note_of number (line ∷ below) has_no_end =
    if (number == 1) && begins_with_mark line then Some ByteOrderMark
    else if ends_in_return line then Some CarriageReturn
    else if has_no_end then padded_end (number + 1) below
    else None

-- the line of a note, if there is one
abbrev pub note_text : Option Note → List ℕ
note_text None = []
note_text (Some ByteOrderMark) =
    codes "  the script begins with a byte order mark, which is no part of a script\n"
note_text (Some CarriageReturn) =
    codes "  the line ends in a carriage return: lines of a script end in a line feed alone\n"
note_text (Some (PaddedEnd line)) =
    flat_map (λ part. part)
    (codes "  line " ∷ decimal line ∷ codes " is end with a blank beside it, which ends no section\n" ∷ [])
