use Rattle.am_script.proofs.Pieces.{puts_three}
use Rattle.am_draw.proofs.row.put_book_title.Goals as goal

pub returns : goal.returns
returns g c =
    puts_three _ _ _ _ _ _ _ _ _ _ _
    c.put_opening.ensures c.put_book_name.ensures c.put_closing.ensures
