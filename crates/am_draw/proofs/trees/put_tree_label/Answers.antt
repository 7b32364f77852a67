use Rattle.am_script.proofs.Pieces.{puts_three}
use Rattle.am_draw.proofs.trees.put_tree_label.Goals as goal

pub returns : goal.returns
returns g c =
    puts_three _ _ _ _ _ _ _ _ _ _ _
    c.put_opening.ensures c.put_label_words.ensures c.put_closing.ensures
