use Rattle.am_script.proofs.Pieces.{puts_two}
use Rattle.am_draw.proofs.row.put_reattached.Goals as goal

pub returns : goal.returns
returns g c =
    rw (← c.attach.view_is, ← c.system_x.ensures, ← c.moved.ensures.moved)
    (puts_two _ _ _ _ _ _ _ _ c.put_stamp.ensures (rw c.from.ensures at c.put_number_label.ensures))
