use Rattle.am_views.proofs.FourPieces.{puts_four}
use Rattle.am_draw.proofs.head.put_last_bars.Goals as goal

pub returns : goal.returns
returns g c =
    rw c.tall.ensures.tall at
    (puts_four _ _ _ _ _ _ _ _ _ _ _ _ _ _ c.put_number.ensures c.put_word.ensures c.put_all_bars.ensures c.put_word-2.ensures)
