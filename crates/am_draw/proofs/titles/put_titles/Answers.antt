use Rattle.am_views.proofs.FourPieces.{puts_four}
use Rattle.am_draw.proofs.titles.put_titles.Goals as goal

pub returns : goal.returns
returns g c =
    rw (c.moved-far.ensures.moved, c.walker_columns-walkers.ensures.columns) at
    (puts_four _ _ _ _ _ _ _ _ _ _ _ _ _ _ c.put_left_again.ensures c.put_tokens_again.ensures c.put_right_again.ensures c.put_named.ensures)
