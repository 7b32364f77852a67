use Rattle.am_script.proofs.Pieces.{puts_two}
use Rattle.am_draw.proofs.row.put_book_name.Goals as goal

pub returns : goal.returns
returns g c =
    puts_two _ _ _ _ _ _ _ _
    c.put_word.ensures c.put_named.ensures
