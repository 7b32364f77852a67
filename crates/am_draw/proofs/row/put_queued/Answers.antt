use Rattle.am_script.proofs.Pieces.{puts_three}
use Rattle.am_draw.proofs.row.put_queued.Goals as goal

pub returns : goal.returns
returns g c =
    rw (← c.token.view_is) (rw c.from.ensures at
    (puts_three _ _ _ _ _ _ _ _ _ _ _ c.put_stamp.ensures c.put_number_label.ensures c.put_packet_label.ensures))
