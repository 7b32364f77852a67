use Rattle.am_serve.proofs.text.put_act.Goals as goal

pub returns-in-Mkdir : goal.returns-in-Mkdir
returns-in-Mkdir g c = rw c.in-Mkdir.is c.put_word.ensures

pub returns-in-Mount : goal.returns-in-Mount
returns-in-Mount g c = rw c.in-Mount.is c.put_word-in-Mount.ensures

pub returns-in-Umount : goal.returns-in-Umount
returns-in-Umount g c = rw c.in-Umount.is c.put_word-in-Umount.ensures

pub returns-in-Rmdir : goal.returns-in-Rmdir
returns-in-Rmdir g c = rw c.in-Rmdir.is c.put_word-in-Rmdir.ensures

pub returns-in-Record : goal.returns-in-Record
returns-in-Record g c = rw c.in-Record.is c.put_word-in-Record.ensures

pub returns-in-Reply : goal.returns-in-Reply
returns-in-Reply g c = rw c.in-Reply.is c.put_word-in-Reply.ensures
