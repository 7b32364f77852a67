-- Looking up a key in a map (autofs(5), "SUN FORMAT", "Wildcard Key").
use Rattle.std.specs.Prelude.{ℕ, ◌==◌, Bool, not, List, [], ◌∷◌, Option, Some, None, find, filter, if◌then◌else◌}
use Rattle.std.specs.Str.{bytes_eq}
use Rattle.std.specs.List.{flat_map}
use Rattle.am_map.specs.EntryText.{EntryText, Row}
use Rattle.am_map.specs.Words.{star}

-- the row has this key
abbrev pub has_key : List ℕ → Row → Bool
has_key key row = bytes_eq key row.key

-- of the rows with one key the first
abbrev pub first_of_each : List Row → List Row
first_of_each [] = []
first_of_each (row ∷ rows) =
    row ∷ filter (λ other. not (has_key row.key other)) (first_of_each rows)

-- the first row, if there is one, else the other
abbrev pub or_else : Option Row → Option Row → Option Row
or_else (Some row) other = Some row
or_else None other = other

-- the first line with this key, else the first `*` line, else none
abbrev pub row_for : List Row → List ℕ → Option Row
row_for rows key = or_else (find (has_key key) rows) (find (has_key star) rows)

-- each `&` stands for the key
abbrev pub with_key : List ℕ → List ℕ → List ℕ
with_key key bytes = flat_map (λ b. if b == 38 then key else b ∷ []) bytes

-- the entry with the key put into its host and its path; options keep their `&`
abbrev pub entry_with_key : List ℕ → EntryText → EntryText
entry_with_key key entry = record {
  options = entry.options;
  host = with_key key entry.host;
  path = with_key key entry.path;
}

-- the entry of the row that was found for the key
abbrev pub entry_of_row : List ℕ → Option Row → Option EntryText
entry_of_row key None = None
entry_of_row key (Some row) = Some (entry_with_key key row.entry)

-- what a key is looked up as
abbrev pub entry_for : List Row → List ℕ → Option EntryText
entry_for rows key = entry_of_row key (row_for rows key)
