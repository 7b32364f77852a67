use Rattle.am_views.proofs.FourPieces.{puts_four}
use Rattle.am_draw.proofs.marks.put_stretch.Goals as goal

pub returns : goal.returns
returns g c =
    puts_four _ _ _ _ _ _ _ _ _ _ _ _ _ _
    c.put_word.ensures c.put_word-2.ensures c.put_reach.ensures c.put_word-3.ensures
