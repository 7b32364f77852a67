-- The attachments of all autofs file systems, as a table, and what its rows keep.
use Rattle.std.specs.Prelude.{◌-◌, min, vec_len, vec_capacity}
use Rattle.std.specs.VecDeque.{deque_len, deque_capacity}
use Rattle.am_ordered.specs.RowTable.{RowTable}
use Rattle.am_kernel.specs.declared.row.Attached.{Attached}
use Rattle.am_kernel.specs.Rising.{RiseByFs, RiseByAttach}
use Rattle.am_kernel.specs.Holders.{AreHeld}
use Rattle.am_kernel.specs.declared.attachment_table.AttachmentTable.TheInside.{Inside}

-- the table that these rows make, and for how many more there is room in both orders
abbrev pub table_of : Inside → RowTable Attached
table_of t = record {
  rows = t.rows.items;
  room = min (vec_capacity t.rows - vec_len t.rows) (deque_capacity t.holders - deque_len t.holders);
}

-- the rows rise by file system, and the other order has the same by attachment
pub record IsIndexed (t : Inside) : Type 0 where
  pub rising : RiseByFs t.rows.items
  pub ordered : RiseByAttach t.holders.items
  pub held : AreHeld t.holders.items t.rows.items
