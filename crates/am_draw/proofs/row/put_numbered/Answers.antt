use Rattle.am_script.proofs.Pieces.{puts_two}
use Rattle.am_draw.proofs.row.put_numbered.Goals as goal

pub returns : goal.returns
returns g c =
    rw c.from.ensures at
    (puts_two _ _ _ _ _ _ _ _ c.put_stamp.ensures c.put_number_label.ensures)
