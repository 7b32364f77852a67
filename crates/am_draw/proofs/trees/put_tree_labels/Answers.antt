use Rattle.am_script.proofs.Pieces.{puts_three}
use Rattle.am_draw.proofs.trees.put_tree_labels.Goals as goal

pub returns : goal.returns
returns g c =
    rw (c.mount_at.ensures, c.mount_at-2.ensures, c.mount_at-3.ensures, c.saturating_sub-more.ensures) at
    (puts_three _ _ _ _ _ _ _ _ _ _ _ c.put_tree_label_in.ensures c.put_tree_label_in-2.ensures c.put_tree_label_in-3.ensures)
