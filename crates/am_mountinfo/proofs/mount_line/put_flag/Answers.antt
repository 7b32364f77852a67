use Rattle.am_mountinfo.proofs.mount_line.put_flag.Goals as goal

pub returns-in-true : goal.returns-in-true
returns-in-true g c = rw c.in-true.is c.put_word.ensures
