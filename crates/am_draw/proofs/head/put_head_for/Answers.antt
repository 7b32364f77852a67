use Rattle.am_views.proofs.FourPieces.{puts_four}
use Rattle.am_draw.proofs.head.put_head_for.Goals as goal

pub returns : goal.returns
returns g c =
    puts_four _ _ _ _ _ _ _ _ _ _ _ _ _ _
    c.put_tag.ensures c.put_look.ensures c.put_ground.ensures c.put_count.ensures
