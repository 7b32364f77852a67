use Rattle.am_views.proofs.FourPieces.{puts_four}
use Rattle.am_draw.proofs.scene.put_labels.Goals as goal

pub returns : goal.returns
returns g c =
    rw (c.deref.ensures.value, c.deref-2.ensures.value, c.answer_class.ensures, c.deref-3.ensures.value) at
    (puts_four _ _ _ _ _ _ _ _ _ _ _ _ _ _ c.put_line_title.ensures c.put_number_label.ensures c.put_words_label.ensures c.put_words_label-2.ensures)
