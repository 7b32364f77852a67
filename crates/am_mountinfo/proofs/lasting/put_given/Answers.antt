use Rattle.am_script.proofs.Pieces.{puts_three}
use Rattle.am_mountinfo.proofs.lasting.put_given.Goals as goal

pub returns : goal.returns
returns g c = puts_three _ _ _ _ _ _ _ _ _ _ _ c.put_word.ensures (rw c.mount.view_is at c.put_number.ensures) c.put_spaces.ensures
