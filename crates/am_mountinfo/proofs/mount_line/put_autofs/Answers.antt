use Rattle.am_script.proofs.Pieces.{puts_three}
use Rattle.am_mountinfo.proofs.mount_line.put_autofs.Goals as goal

pub returns : goal.returns
returns g c =
    puts_three _ _ _ _ _ _ _ _ _ _ _ c.put_word.ensures c.put_served.ensures c.put_protocol.ensures
