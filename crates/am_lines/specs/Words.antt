-- The words of a line, and the lines that say something (autofs(5), "SUN FORMAT").
use Rattle.std.specs.Prelude.{ℕ, ◌==◌, Bool, not, ◌||◌, List, [], ◌∷◌, length, filter, if◌then◌else◌}
use Rattle.std.specs.List.{slice_split, flat_map}
use Rattle.am_lines.specs.Lines.{Line, lines_from}

-- space or tab
abbrev pub is_blank : ℕ → Bool
is_blank b = (b == 32) || (b == 9)

-- the byte is a colon
abbrev pub is_colon : ℕ → Bool
is_colon b = b == 58

-- what stands between blanks
abbrev pub words_of : List ℕ → List (List ℕ)
words_of line = filter (λ word. not (length word == 0)) (slice_split is_blank line)

-- a line with words that is no comment: its number, its first word and the others
pub record Statement : Type 0 where
  pub number : ℕ
  pub first : List ℕ
  pub others : List (List ℕ)

-- the first byte of the word is this one
abbrev pub begins_with : ℕ → List ℕ → Bool
begins_with byte [] = Bool.false
begins_with byte (b ∷ bytes) = b == byte

-- no words are no statement, and nor is a comment, whose first word begins with `#`
abbrev pub statement_of_words : ℕ → List (List ℕ) → List Statement
statement_of_words number [] = []
statement_of_words number (first ∷ others) =
    if begins_with 35 first then []
    else record { number = number; first = first; others = others } ∷ []

-- what a line says: one statement, or none
abbrev pub statement_of : Line → List Statement
statement_of line = statement_of_words line.number (words_of line.bytes)

-- the statements of a text that begins at the raw line of this number
abbrev pub statements_from : ℕ → List ℕ → List Statement
statements_from number text = flat_map statement_of (lines_from number text)

-- the statements of a text
abbrev pub statements : List ℕ → List Statement
statements text = statements_from 1 text
