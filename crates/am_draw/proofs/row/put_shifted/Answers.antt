use Rattle.am_views.proofs.FourPieces.{puts_four}
use Rattle.am_draw.proofs.row.put_shifted.Goals as goal

pub returns : goal.returns
returns g c =
    rw c.moved-far.ensures.moved at
    (puts_four _ _ _ _ _ _ _ _ _ _ _ _ _ _ c.put_number.ensures c.put_word.ensures c.put_mounts.ensures c.put_word-2.ensures)
