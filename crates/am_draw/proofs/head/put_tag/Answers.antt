use Rattle.am_script.proofs.Pieces.{puts_three}
use Rattle.am_draw.proofs.head.put_tag.Goals as goal

pub returns : goal.returns
returns g c =
    puts_three _ _ _ _ _ _ _ _ _ _ _
    c.put_size.ensures c.put_box.ensures c.put_title.ensures
