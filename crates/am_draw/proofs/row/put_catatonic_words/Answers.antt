use Rattle.am_script.proofs.Pieces.{puts_two}
use Rattle.am_draw.proofs.row.put_catatonic_words.Goals as goal

pub returns : goal.returns
returns g c =
    rw (← c.fs.view_is) (rw c.from.ensures at (puts_two _ _ _ _ _ _ _ _ c.put_number.ensures c.put_word.ensures))
