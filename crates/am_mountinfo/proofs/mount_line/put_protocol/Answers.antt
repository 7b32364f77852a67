use Rattle.am_mountinfo.proofs.mount_line.put_protocol.Goals as goal

pub returns-in-true : goal.returns-in-true
returns-in-true g c = rw c.in-true.is c.put_word.ensures

pub returns-in-false : goal.returns-in-false
returns-in-false g c = rw c.in-false.is c.put_word-in-false.ensures
