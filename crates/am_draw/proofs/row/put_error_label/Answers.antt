use Rattle.am_script.proofs.Pieces.{puts_three}
use Rattle.am_draw.proofs.row.put_error_label.Goals as goal

pub returns : goal.returns
returns g c =
    rw c.errno.ensures at
    (rw c.error_word.ensures at
    (puts_three _ _ _ _ _ _ _ _ _ _ _ c.put_opening.ensures c.put_word.ensures c.put_closing.ensures))
