use Rattle.am_script.proofs.Pieces.{puts_three}
use Rattle.am_mountinfo.proofs.lasting.put_numbers.Goals as goal

pub returns : goal.returns
returns g c = puts_three _ _ _ _ _ _ _ _ _ _ _ c.put_latest.ensures c.put_last_mounts.ensures c.put_last_autofs.ensures
