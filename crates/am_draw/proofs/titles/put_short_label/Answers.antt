use Rattle.am_script.proofs.Pieces.{puts_three}
use Rattle.am_draw.proofs.titles.put_short_label.Goals as goal

pub returns : goal.returns
returns g c =
    puts_three _ _ _ _ _ _ _ _ _ _ _
    c.put_opening.ensures c.put_short_words.ensures c.put_closing.ensures
