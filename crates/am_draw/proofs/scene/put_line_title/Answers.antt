use Rattle.am_script.proofs.Pieces.{puts_three}
use Rattle.am_draw.proofs.scene.put_line_title.Goals as goal

pub returns : goal.returns
returns g c =
    puts_three _ _ _ _ _ _ _ _ _ _ _
    c.put_word.ensures c.put_xml.ensures c.put_word-2.ensures
