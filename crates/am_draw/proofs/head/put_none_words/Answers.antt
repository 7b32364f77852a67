use Rattle.am_draw.proofs.head.put_none_words.Goals as goal

pub returns-then-rows-eq0 : goal.returns-then-rows-eq0
returns-then-rows-eq0 g c = rw c.if-rows-eq0.true c.put_word.ensures
