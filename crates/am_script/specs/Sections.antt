-- The head of a script in parts: lines that stand by themselves, and sections, each from its first
-- line to the first line that is just `end`. Own choice (docs/FORMATS.md, "The head").
use Rattle.std.specs.Prelude.{ℕ, ◌+◌, Bool, false, List, [], ◌∷◌, ◌++◌, codes, bytes_eq, Option, None, Some, if◌then◌else◌}
use Rattle.std.specs.Option.{option_map}
use Rattle.am_lines.specs.{words_of}
use Rattle.am_script.specs.Lines.{is_long, are_skipped}

-- a section: the number of its first line, the name of its map (none for the master section), and
-- the bytes between its first line and its `end`
pub record Section : Type 0 where
  pub first : ℕ
  pub name : Option (List ℕ)
  pub text : List ℕ

-- a part of a head
pub data Part : Type 0 where
  -- a line by itself: its number and its words
  Alone : ℕ → List (List ℕ) → Part
  -- a section that ends
  Whole : Section → Part
  -- a section that doesn't, with the number of its line that is too long, if there is one
  Unended : Section → Option ℕ → Part
  -- a line that is too long, outside of sections
  Long : ℕ → Part

-- `end`, and not a byte more
abbrev pub is_end : List ℕ → Bool
is_end line = bytes_eq line (codes "end")

-- the words are one, and it is this
abbrev pub are_only : List ℕ → List (List ℕ) → Bool
are_only text (word ∷ []) = bytes_eq word text
are_only text words = false

-- the name behind `map`
abbrev pub map_name : List (List ℕ) → Option (List ℕ)
map_name (word ∷ name ∷ []) = if bytes_eq word (codes "map") then Some name else None
map_name words = None

-- the section that a line opens: `master` or `map NAME`
abbrev pub section_opened : ℕ → List (List ℕ) → Option Section
section_opened number words =
    if are_only (codes "master") words then Some (record { first = number; name = None; text = [] })
    else option_map (λ name. record { first = number; name = Some name; text = [] }) (map_name words)

-- a line of a section, with its line feed
abbrev pub with_line : Section → List ℕ → Section
with_line section line = record section { text = section.text ++ line ++ 10 ∷ [] }

-- a line opens this section, or stands by itself before these parts
abbrev pub part_by : Option Section → ℕ → List (List ℕ) → (Section → List Part) → List Part → List Part
part_by (Some section) number words within behind = within section
part_by None number words within behind = Alone number words ∷ behind

-- the parts of these lines, behind so many, where a section is open or none. Behind a line that is
-- too long there are no more.
abbrev pub parts_in : Option Section → ℕ → List (List ℕ) → List Part
parts_in None before [] = []
parts_in (Some section) before [] = Unended section None ∷ []
parts_in None before (line ∷ lines) =
    if is_long line then Long (before + 1) ∷ []
    else if are_skipped (words_of line) then parts_in None (before + 1) lines
    else part_by (section_opened (before + 1) (words_of line)) (before + 1) (words_of line)
    (λ section. parts_in (Some section) (before + 1) lines) (parts_in None (before + 1) lines)
parts_in (Some section) before (line ∷ lines) =
    if is_long line then Unended section (Some (before + 1)) ∷ []
    else if is_end line then Whole section ∷ parts_in None (before + 1) lines
    else parts_in (Some (with_line section line)) (before + 1) lines

-- the parts of a script's lines
abbrev pub parts_of_lines : List (List ℕ) → List Part
parts_of_lines lines = parts_in None 0 lines
