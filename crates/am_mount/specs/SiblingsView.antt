-- What the children of a parent, stored side by side, stand for: own choice.
use Rattle.std.specs.Prelude.{◌-◌, Vec, vec_len, vec_capacity}
use Rattle.am_ordered.specs.RowTable.{RowTable}
use Rattle.am_mount.specs.declared.siblings.Child.{Child}

-- the children in their order, and how many more take no memory
abbrev pub table_of : {Z : Type 0} → Vec Child Z → RowTable Child
table_of children = record {
  rows = children.items;
  room = vec_capacity children - vec_len children;
}
