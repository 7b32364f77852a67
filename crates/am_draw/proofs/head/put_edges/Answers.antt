use Rattle.am_views.proofs.FourPieces.{puts_four}
use Rattle.am_draw.proofs.head.put_edges.Goals as goal

pub returns : goal.returns
returns g c =
    puts_four _ _ _ _ _ _ _ _ _ _ _ _ _ _
    c.put_number.ensures c.put_number-2.ensures c.put_number-3.ensures c.put_word.ensures
