use Rattle.am_script.proofs.Pieces.{puts_three}
use Rattle.am_draw.proofs.draw.put_row.Goals as goal

pub returns-clause-drawn : goal.returns-clause-drawn
returns-clause-drawn g c =
    rw c.row_y.ensures at
    (puts_three _ _ _ _ _ _ _ _ _ _ _ c.put_scene.ensures c.put_titles_in.ensures c.put_marks.ensures.marks)
