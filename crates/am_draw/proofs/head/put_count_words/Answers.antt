use Rattle.am_draw.proofs.head.put_count_words.Goals as goal

pub returns-then-events-eq0 : goal.returns-then-events-eq0
returns-then-events-eq0 g c = rw c.if-events-eq0.true c.put_word.ensures
