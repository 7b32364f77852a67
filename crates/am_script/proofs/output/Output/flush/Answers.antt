use Rattle.std.proofs.Common.{sym, ◌∙◌}
use Rattle.am_script.proofs.OwedLemmas.{stands_lost, stands_given}
use Rattle.am_script.proofs.output.Output.flush.Goals as goal

pub returns-then-is_some-clause-settles : goal.returns-then-is_some-clause-settles
returns-then-is_some-clause-settles g c = λ all start h.
    stands_lost _ _ _ _ _ _ _ _ _ _ _ (sym c.is_some.ensures ∙ c.if-is_some.true) c.clear.ensures.bytes c.clear.ensures.marks c.clear.ensures.lost h

pub returns-clause-settles : goal.returns-clause-settles
returns-clause-settles g c = λ all start h.
    stands_given _ _ _ _ _ _ _ _ _ _ _ _ _ (sym c.is_some.ensures ∙ c.if-is_some.false)
    (rw c.as_slice.ensures.value at c.write_bytes-taken.ensures.bound)
    c.clear-2.ensures.bytes c.clear-2.ensures.marks (c.clear-2.ensures.lost ∙ c.lost_behind-self.ensures)
    (rw c.as_slice.ensures.value at c.write_bytes-taken.ensures.taken) h
