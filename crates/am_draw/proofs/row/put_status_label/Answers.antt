use Rattle.am_script.proofs.Pieces.{puts_three}
use Rattle.am_draw.proofs.row.put_status_label.Goals as goal

pub returns : goal.returns
returns g c =
    rw c.status_class.ensures at
    (puts_three _ _ _ _ _ _ _ _ _ _ _ c.put_opening.ensures c.put_status_words.ensures c.put_closing.ensures)
