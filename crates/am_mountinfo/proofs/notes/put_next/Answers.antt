use Rattle.am_mountinfo.proofs.notes.put_next.Goals as goal

pub returns-in-Mkdir : goal.returns-in-Mkdir
returns-in-Mkdir g c = rw c.in-Mkdir.is c.put_word.ensures

pub returns-in-Rmdir : goal.returns-in-Rmdir
returns-in-Rmdir g c = rw c.in-Rmdir.is c.put_word-in-Rmdir.ensures

pub returns-in-Record : goal.returns-in-Record
returns-in-Record g c = rw c.in-Record.is c.put_word-in-Record.ensures

pub returns-in-Reply : goal.returns-in-Reply
returns-in-Reply g c = rw c.in-Reply.is c.put_word-in-Reply.ensures
