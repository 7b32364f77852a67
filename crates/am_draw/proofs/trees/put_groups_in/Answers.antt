use Rattle.am_draw.proofs.trees.put_groups_in.Goals as goal

pub returns-in-Before : goal.returns-in-Before
returns-in-Before g c = rw c.in-Before.is c.put_word.ensures

pub returns-in-Behind : goal.returns-in-Behind
returns-in-Behind g c = rw c.in-Behind.is c.put_groups.ensures
