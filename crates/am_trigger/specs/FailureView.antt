-- What the field stands for: own choice.
use Rattle.am_trigger.specs.FailureTable.{FailureTable}
use Rattle.am_trigger.specs.declared.failures.Failures.TheInside.{Inside}

-- the rows of the index, and the room in it
abbrev pub failure_table_of : Inside → FailureTable
failure_table_of f = record { rows = f.rows.entries; room = f.rows.room }
