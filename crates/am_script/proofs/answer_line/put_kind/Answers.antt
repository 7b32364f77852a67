use Rattle.am_script.proofs.answer_line.put_kind.Goals as goal

pub returns-in-SharedSlave : goal.returns-in-SharedSlave
returns-in-SharedSlave g c = rw c.in-SharedSlave.is c.put_word-in-SharedSlave.ensures
