-- The rows that are kept while a master map is read, for the code alone (auto.master(5), "FORMAT").
use Rattle.std.specs.Prelude.{List, [], ◌∷◌, ◌++◌, Result, Ok, Err}
use Rattle.am_lines.specs.{Statement}
use Rattle.am_master.specs.declared.fault.MasterFaultKind.{MasterFaultKind}
use Rattle.am_master.specs.Grammar.{row_read}
use Rattle.am_master.specs.MasterRow.{MasterRow}

-- the rows and that of a line below them, or its fault
abbrev pub added : List MasterRow → Result MasterRow MasterFaultKind →
    Result (List MasterRow) MasterFaultKind
added above (Ok row) = Ok (above ++ row ∷ [])
added above (Err fault) = Err fault

-- the rows and that of one line more below them, if it says something
abbrev pub line_added : List MasterRow → List Statement → Result (List MasterRow) MasterFaultKind
line_added above [] = Ok above
line_added above (line ∷ lines) = added above (row_read above line)
