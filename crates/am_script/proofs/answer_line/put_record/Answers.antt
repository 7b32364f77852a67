use Rattle.am_script.proofs.Pieces.{puts_two}
use Rattle.am_script.proofs.answer_line.put_record.Goals as goal

pub returns-in-Unmounting : goal.returns-in-Unmounting
returns-in-Unmounting g c =
    rw (c.in-Unmounting.is, ← c.token-in-Unmounting.view_is, ← c.mount-in-Unmounting.view_is)
    (rw c.from-in-Unmounting.ensures at (puts_two _ _ _ _ _ _ _ _ c.put_number-in-Unmounting.ensures c.put_number-in-Unmounting-2.ensures))
