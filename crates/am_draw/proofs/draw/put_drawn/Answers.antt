use Rattle.am_script.proofs.Pieces.{puts_two}
use Rattle.am_draw.proofs.draw.put_drawn.Goals as goal

pub returns-clause-drawn : goal.returns-clause-drawn
returns-clause-drawn g c =
    puts_two _ _ _ _ _ _ _ _
    c.put_head_in.ensures c.put_row_in.ensures.drawn
