-- The attachments that the daemon holds, as they are kept: own choice (docs/DECISIONS.md, "A map in
-- order of insertion is a crate of its own").
use Rattle.std.specs.Prelude.{ℕ, List, map}
use Rattle.am_ordered.specs.RowTable.{RowTable}
use Rattle.am_state.specs.{HeldRow}
use Rattle.am_daemon.specs.Attachments.{AreOnce}
use Rattle.am_daemon.specs.declared.held.HeldTable.TheInside.{Inside}

-- a file system beside its attachment, as a row
abbrev pub row_of : (ℕ × ℕ) → HeldRow
row_of pair = record { fs = pair.0; attach = pair.1 }

-- all of them
abbrev pub rows_of : List (ℕ × ℕ) → List HeldRow
rows_of pairs = map row_of pairs

-- the rows, and their room
abbrev pub table_of : Inside → RowTable HeldRow
table_of t = record { rows = rows_of t.attachments.entries; room = t.attachments.room }

-- of no file system are two attachments held
abbrev pub IsHeld : Inside → Type 0
IsHeld t = AreOnce (map (λ row. row.fs) (rows_of t.attachments.entries))
