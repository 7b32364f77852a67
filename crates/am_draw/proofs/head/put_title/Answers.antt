use Rattle.am_script.proofs.Pieces.{puts_three}
use Rattle.am_draw.proofs.head.put_title.Goals as goal

pub returns : goal.returns
returns g c =
    puts_three _ _ _ _ _ _ _ _ _ _ _
    c.put_word.ensures c.put_count_words.ensures c.put_word-2.ensures
