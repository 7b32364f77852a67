use Rattle.am_script.proofs.Pieces.{puts_two}
use Rattle.am_draw.proofs.head.put_tail.Goals as goal

pub returns : goal.returns
returns g c =
    rw c.rows_shown-rows.ensures.shown at
    (puts_two _ _ _ _ _ _ _ _ c.put_last_bars_in.ensures c.put_word.ensures)
