-- What the fields stand for.
use Rattle.std.specs.Map.{keys_of}
use Rattle.indexmap.specs.IndexMap.{spare}
use Rattle.am_trigger.specs.Rows.{TriggerRows}
use Rattle.am_trigger.specs.Capacity.{TriggerTable}
use Rattle.am_trigger.specs.declared.triggers.Triggers.TheInside.{Inside}

-- the fields as rows: the directories are the keys of their index
abbrev pub rows_of : Inside → TriggerRows
rows_of t = record { autofs = t.autofs.rows; made = keys_of t.made.entries; uses = t.uses.entries }

-- the rows, and the room that is left for more
abbrev pub table_of : Inside → TriggerTable
table_of t = record {
  rows = rows_of t;
  autofs_room = t.autofs.room;
  use_room = spare t.uses;
}
