use Rattle.am_script.proofs.Pieces.{puts_three}
use Rattle.am_draw.proofs.trees.put_mounts.Goals as goal

pub returns : goal.returns
returns g c =
    rw (c.first_mounts.ensures, c.as_slice-mounts.ensures) at
    (puts_three _ _ _ _ _ _ _ _ _ _ _ c.put_tree_title.ensures c.put_tree_marks.ensures c.put_tree_labels.ensures)
