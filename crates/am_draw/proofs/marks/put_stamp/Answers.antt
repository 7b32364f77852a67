use Rattle.am_views.proofs.FourPieces.{puts_four}
use Rattle.am_draw.proofs.marks.put_stamp.Goals as goal

pub returns : goal.returns
returns g c =
    puts_four _ _ _ _ _ _ _ _ _ _ _ _ _ _
    c.put_word.ensures c.put_word-2.ensures c.put_at.ensures c.put_word-3.ensures
