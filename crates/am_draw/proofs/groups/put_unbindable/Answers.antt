use Rattle.am_draw.proofs.groups.put_unbindable.Goals as goal

pub returns-in-true : goal.returns-in-true
returns-in-true g c = rw c.in-true.is c.put_word.ensures
