use Rattle.am_draw.proofs.trees.put_ns_words.Goals as goal

pub returns-in-Some : goal.returns-in-Some
returns-in-Some g c = rw (← c.row_of.ensures, c.in-Some.is) c.put_ns.ensures

pub returns-in-None : goal.returns-in-None
returns-in-None g c = rw (← c.row_of.ensures, c.in-None.is) c.put_word.ensures
