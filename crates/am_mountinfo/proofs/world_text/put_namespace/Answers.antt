use Rattle.am_script.proofs.Pieces.{puts_three}
use Rattle.am_mountinfo.proofs.world_text.put_namespace.Goals as goal

pub returns : goal.returns
returns g c =
    rw c.from.ensures at (puts_three _ _ _ _ _ _ _ _ _ _ _ c.put_number.ensures c.put_word.ensures c.put_mounts.ensures)
