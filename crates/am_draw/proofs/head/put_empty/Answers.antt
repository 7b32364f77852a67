use Rattle.am_script.proofs.Pieces.{puts_two}
use Rattle.am_draw.proofs.head.put_empty.Goals as goal

pub returns : goal.returns
returns g c =
    puts_two _ _ _ _ _ _ _ _
    c.put_head_for.ensures c.put_word.ensures
