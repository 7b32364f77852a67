use Rattle.std.proofs.Common.{◌≡◌, ◌++◌}
use Rattle.std.specs.Vec.Iter.{into_iter_items}
use Rattle.am_mount.proofs.tree.Tree.add_all.Given as goal

abbrev pub invariant-loop-row : goal.invariant-loop-row
invariant-loop-row l = record {
  can : goal.iterator-loop-row.can_next l.row-iterator;
  finite : goal.iterator-loop-row.is_finite l.row-iterator;
  grown : l.self ≡ l.fn.self ++ l.yielded;
  rest : l.fn.rows.items ≡ l.yielded ++ into_iter_items l.row-iterator;
}
