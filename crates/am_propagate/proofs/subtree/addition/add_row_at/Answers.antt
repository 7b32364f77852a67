use Rattle.std.proofs.Common.{refl}
use Rattle.am_propagate.proofs.CopyingLemmas.{rises_behind}
use Rattle.am_propagate.proofs.subtree.addition.add_row_at.Goals as goal

pub add-requires : goal.add-requires
add-requires c = rises_behind c.args.tree.now _ c.args.number c.rows-rows.ensures.rising c.requires refl
