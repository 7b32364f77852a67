use Rattle.am_script.proofs.Pieces.{puts_two}
use Rattle.am_draw.proofs.titles.put_named.Goals as goal

pub returns : goal.returns
returns g c =
    puts_two _ _ _ _ _ _ _ _
    c.put_names.ensures c.put_word.ensures
