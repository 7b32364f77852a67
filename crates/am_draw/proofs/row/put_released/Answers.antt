use Rattle.am_script.proofs.Pieces.{puts_three}
use Rattle.am_draw.proofs.row.put_released.Goals as goal

pub returns : goal.returns
returns g c =
    rw c.released_class.ensures at
    (puts_three _ _ _ _ _ _ _ _ _ _ _ c.put_stroke.ensures c.put_status_label.ensures c.put_status_error.ensures)
