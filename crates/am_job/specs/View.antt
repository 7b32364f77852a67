-- What the fields of a book stand for: own choice (docs/DECISIONS.md, "A map in order of insertion
-- is a crate of its own").
use Rattle.std.specs.Prelude.{List, map}
use Rattle.am_names.specs.declared.trigger.Trigger.{Trigger}
use Rattle.am_state.specs.{Record, RecordRow}
use Rattle.am_job.specs.Capacity.{BookTable}
use Rattle.am_job.specs.declared.book.Book.TheInside.{Inside}

-- a trigger beside its record, as a row
abbrev pub row_of : (Trigger × Record) → RecordRow
row_of pair = record { trigger = pair.0; entry = pair.1 }

-- all of them
abbrev pub rows_of : List (Trigger × Record) → List RecordRow
rows_of pairs = map row_of pairs

-- the rows of the book, and its room
abbrev pub table_of : Inside → BookTable
table_of b = record { rows = rows_of b.records.entries; room = b.records.room }
