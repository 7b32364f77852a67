use Rattle.am_script.proofs.Pieces.{puts_three}
use Rattle.am_draw.proofs.head.put_others.Goals as goal

pub returns : goal.returns
returns g c =
    rw c.shift.ensures.shift at
    (puts_three _ _ _ _ _ _ _ _ _ _ _ c.put_edges.ensures c.put_token_title.ensures c.put_right.ensures)
