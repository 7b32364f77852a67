use Rattle.std.proofs.Common.{◌≡◌, ◌+◌, ◌++◌, length, take}
use Rattle.std.specs.Prelude.{option_map}
use Rattle.std.specs.List.{filter_map}
use Rattle.am_mount.specs.{mount_row}
use Rattle.am_propagate.specs.Copying.{AreBelow}
use Rattle.am_propagate.specs.{copy_number, row_in}
use Rattle.am_propagate.proofs.subtree.namespace.add_rows_in.Given as goal

abbrev pub invariant-loop-at : goal.invariant-loop-at
invariant-loop-at l = record {
  rows : l.tree ≡ l.fn.tree ++ filter_map (λ m. option_map (row_in (copy_number l.fn.last l.fn.mounts) l.fn.to) (mount_row l.fn.tree m)) (take l.at l.fn.mounts);
  count : length l.tree ≡ length l.fn.tree + l.at;
  below : AreBelow (l.fn.last + l.at + 1) l.tree;
}
