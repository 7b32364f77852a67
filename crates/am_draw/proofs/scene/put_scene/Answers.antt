use Rattle.am_script.proofs.Pieces.{puts_two}
use Rattle.am_draw.proofs.scene.put_scene.Goals as goal

pub returns : goal.returns
returns g c =
    puts_two _ _ _ _ _ _ _ _
    c.put_row_opening.ensures c.put_labels.ensures
