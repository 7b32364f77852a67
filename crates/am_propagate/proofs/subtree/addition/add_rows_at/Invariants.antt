use Rattle.std.proofs.Common.{◌+◌, ◌∷◌, take}
use Rattle.am_propagate.specs.Coming.{AddsMounts}
use Rattle.am_propagate.specs.Copying.{AreBelow}
use Rattle.am_propagate.proofs.subtree.addition.add_rows_at.Given as goal

abbrev pub invariant-loop-index : goal.invariant-loop-index
invariant-loop-index l = record {
  rows : AddsMounts l.fn.at.place l.fn.fs l.fn.mount l.fn.mount (l.fn.at.mount ∷ take l.index l.fn.receivers) l.fn.tree l.tree;
  below : AreBelow (l.fn.mount + l.index + 1) l.tree;
}
