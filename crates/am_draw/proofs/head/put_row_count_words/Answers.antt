use Rattle.am_views.proofs.FourPieces.{puts_four}
use Rattle.am_draw.proofs.head.put_row_count_words.Goals as goal

pub returns : goal.returns
returns g c =
    puts_four _ _ _ _ _ _ _ _ _ _ _ _ _ _
    c.put_number.ensures c.put_number-2.ensures c.put_word.ensures c.put_none_words.ensures
