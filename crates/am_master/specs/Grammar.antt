-- The grammar of a master map: a text and its rows, or its first fault (auto.master(5), "FORMAT").
use Rattle.std.specs.Prelude.{◌≡◌, ◌≤◌, ℕ, Bool, All, List, [], ◌∷◌, ◌++◌, Result, Ok, Err, IsOk, if◌then◌else◌}
use Rattle.am_lines.specs.{Statement, statements}
use Rattle.am_master.specs.declared.fault.MasterFault.{MasterFault}
use Rattle.am_master.specs.declared.fault.MasterFaultKind.{MasterFaultKind}
use Rattle.am_master.specs.declared.fault.MasterFaultKind.TheVariants.{NoMap, Twice}
use Rattle.am_master.specs.declared.point.Point.{Point}
use Rattle.am_master.specs.Fault.{IsFaultOf}
use Rattle.am_master.specs.MasterRow.{MasterRow}
use Rattle.am_master.specs.Points.{is_listed, texts_of}
use Rattle.am_master.specs.Timeout.{timeout_read}
use Rattle.am_master.specs.Words.{point_read, name_read}

-- an indirect point that a line above has
abbrev pub is_taken : List MasterRow → Point → Bool
is_taken above point = is_listed (texts_of above) point

-- the point, unless a line above has it, or its fault
abbrev pub once : List MasterRow → Result Point MasterFaultKind → Result Point MasterFaultKind
once above (Ok point) = if is_taken above point then Err Twice else Ok point
once above (Err fault) = Err fault

-- the name of a map and a timeout
pub record ServedPoint : Type 0 where
  pub map : List ℕ
  pub timeout : ℕ

-- a map with a timeout, or the first fault of the two
abbrev pub served : Result (List ℕ) MasterFaultKind → Result ℕ MasterFaultKind →
    Result ServedPoint MasterFaultKind
served (Ok map) (Ok timeout) = Ok (record { map = map; timeout = timeout })
served (Ok map) (Err fault) = Err fault
served (Err fault) timeout = Err fault

-- what the words behind the point are read as: a map and options
abbrev pub served_read : List (List ℕ) → Result ServedPoint MasterFaultKind
served_read [] = Err NoMap
served_read (word ∷ options) = served (name_read word) (timeout_read options)

-- the row of a line of this number, or the first fault of its parts
abbrev pub row_of : ℕ → Result Point MasterFaultKind → Result ServedPoint MasterFaultKind →
    Result MasterRow MasterFaultKind
row_of number (Ok point) (Ok s) =
    Ok (record { point = point; map = s.map; timeout = s.timeout; line = number })
row_of number (Ok point) (Err fault) = Err fault
row_of number (Err fault) s = Err fault

-- a line below these rows is a row, or has one fault, that of its first faulty word
abbrev pub row_read : List MasterRow → Statement → Result MasterRow MasterFaultKind
row_read above line =
    row_of line.number (once above (point_read line.first)) (served_read line.others)

-- what is read below a row, or the fault of this line
abbrev pub with_row : ℕ → List MasterRow → Result MasterRow MasterFaultKind →
    (List MasterRow → Result (List MasterRow) MasterFault) → Result (List MasterRow) MasterFault
with_row number above (Ok row) below = below (above ++ row ∷ [])
with_row number above (Err kind) below = Err (record { line = number; kind = kind })

-- each line is a row below those above it, or the first faulty line is told
abbrev pub rows_read : List MasterRow → List Statement → Result (List MasterRow) MasterFault
rows_read above [] = Ok above
rows_read above (line ∷ lines) =
    with_row line.number above (row_read above line) (λ rows. rows_read rows lines)

-- each of these lines is a row
abbrev pub AreRows : List Statement → Type 0
AreRows lines = IsOk (rows_read [] lines)

-- what a text is read as: the rows of its lines, or its first fault
abbrev pub master_read : List ℕ → Result (List MasterRow) MasterFault
master_read text = rows_read [] (statements text)

-- the rows stand on raw lines up to this one
abbrev pub StandWithin : ℕ → List MasterRow → Type 0
StandWithin last rows = All (λ row. row.line ≤ last) rows

-- the answer is what the text is read as, but that memory may run out
abbrev pub ReadAs : Result (List MasterRow) MasterFault → Result (List MasterRow) MasterFault →
    Type 0
ReadAs expected (Ok rows) = expected ≡ Ok rows
ReadAs expected (Err fault) = IsFaultOf expected fault
