-- The grammar of a map: a text and its rows, or its first fault (autofs(5), "SUN FORMAT").
use Rattle.std.specs.Prelude.{◌≡◌, ℕ, List, [], ◌∷◌, drop, Option, Some, None, Result, Ok, Err, IsOk, if◌then◌else◌}
use Rattle.am_lines.specs.{Statement, statements, begins_with}
use Rattle.am_map.specs.declared.fault.MapFault.{MapFault}
use Rattle.am_map.specs.declared.fault.MapFaultKind.{MapFaultKind}
use Rattle.am_map.specs.declared.fault.MapFaultKind.TheVariants.{BadOption, NoLocation, BadLocation}
use Rattle.am_map.specs.declared.kind.MapKind.{MapKind}
use Rattle.am_map.specs.EntryText.{EntryText, Row}
use Rattle.am_map.specs.Fault.{IsFaultOf}
use Rattle.am_map.specs.LookUp.{first_of_each, entry_for}
use Rattle.am_map.specs.Words.{key_read, is_options, is_location, host_of, path_of}

-- exactly one word is left, and it is a location
abbrev pub entry_with : Option (List ℕ) → List (List ℕ) → Result EntryText MapFaultKind
entry_with options [] = Err NoLocation
entry_with options (word ∷ []) =
    if is_location word then
    Ok (record { options = options; host = host_of word; path = path_of word })
    else Err BadLocation
entry_with options (word ∷ other ∷ words) = Err BadLocation

-- what the words behind the key are read as: mount options, if the first begins with a dash,
-- and a location
abbrev pub entry_read : List (List ℕ) → Result EntryText MapFaultKind
entry_read [] = Err NoLocation
entry_read (word ∷ words) =
    if begins_with 45 word then
    (if is_options word then entry_with (Some (drop 1 word)) words else Err BadOption)
    else entry_with None (word ∷ words)

-- a row of a key and an entry, or the first fault of the two
abbrev pub keyed : Result (List ℕ) MapFaultKind → Result EntryText MapFaultKind →
    Result Row MapFaultKind
keyed (Ok key) (Ok entry) = Ok (record { key = key; entry = entry })
keyed (Ok key) (Err fault) = Err fault
keyed (Err fault) entry = Err fault

-- a line is a row, or has one fault, that of its first faulty word
abbrev pub row_read : MapKind → Statement → Result Row MapFaultKind
row_read kind line = keyed (key_read kind line.first) (entry_read line.others)

-- a row before others, or the fault of this line, or theirs
abbrev pub with_row : ℕ → Result Row MapFaultKind → Result (List Row) MapFault →
    Result (List Row) MapFault
with_row number (Ok row) (Ok rows) = Ok (row ∷ rows)
with_row number (Ok row) (Err fault) = Err fault
with_row number (Err kind) rows = Err (record { line = number; kind = kind })

-- each line is a row, or the first faulty line is told
abbrev pub rows_read : MapKind → List Statement → Result (List Row) MapFault
rows_read kind [] = Ok []
rows_read kind (line ∷ lines) = with_row line.number (row_read kind line) (rows_read kind lines)

-- each of these lines is a row
abbrev pub AreRows : MapKind → List Statement → Type 0
AreRows kind lines = IsOk (rows_read kind lines)

-- of the rows with one key the first, or the fault
abbrev pub kept : Result (List Row) MapFault → Result (List Row) MapFault
kept (Ok rows) = Ok (first_of_each rows)
kept (Err fault) = Err fault

-- what a text is read as: the rows of its lines, of those with one key the first, or its first
-- fault
abbrev pub map_read : MapKind → List ℕ → Result (List Row) MapFault
map_read kind text = kept (rows_read kind (statements text))

-- a key is looked up in a map as in the rows of all lines
abbrev pub FindsFirst : Result (List Row) MapFault → List Row → Type 0
FindsFirst (Ok rows) map = (key : List ℕ) → entry_for map key ≡ entry_for rows key
FindsFirst (Err fault) map = ⊥

-- the answer is what the text is read as, but that memory may run out
abbrev pub ReadAs : Result (List Row) MapFault → Result (List Row) MapFault → Type 0
ReadAs expected (Ok rows) = expected ≡ Ok rows
ReadAs expected (Err fault) = IsFaultOf expected fault
