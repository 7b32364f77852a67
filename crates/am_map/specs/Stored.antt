-- The rows that a map keeps while it is read, for the code alone: own choice (docs/DECISIONS.md,
-- "A map with a fault is refused as a whole").
use Rattle.std.specs.Prelude.{ℕ, List, [], ◌∷◌, ◌++◌, map, Result, Ok, Err, if◌then◌else◌}
use Rattle.std.specs.List.{list_any}
use Rattle.am_lines.specs.{Statement}
use Rattle.am_map.specs.declared.fault.MapFaultKind.{MapFaultKind}
use Rattle.am_map.specs.declared.kind.MapKind.{MapKind}
use Rattle.am_map.specs.EntryText.{EntryText, Row}
use Rattle.am_map.specs.Grammar.{row_read}
use Rattle.am_map.specs.LookUp.{has_key}

-- each pair of a key and an entry is a row
abbrev pub rows_by : {K : Type 0} → (K → List ℕ) → List (K × EntryText) → List Row
rows_by bytes pairs = map (λ pair. record { key = bytes pair.0; entry = pair.1 }) pairs

-- a row behind the others, unless one with its key is there
abbrev pub row_added : List Row → Row → List Row
row_added rows row = if list_any (has_key row.key) rows then rows else rows ++ row ∷ []

-- the rows and that of a line, or its fault
abbrev pub added : List Row → Result Row MapFaultKind → Result (List Row) MapFaultKind
added rows (Ok row) = Ok (row_added rows row)
added rows (Err fault) = Err fault

-- the rows and that of one line more, if it says something
abbrev pub line_added : MapKind → List Row → List Statement → Result (List Row) MapFaultKind
line_added kind rows [] = Ok rows
line_added kind rows (line ∷ lines) = added rows (row_read kind line)
