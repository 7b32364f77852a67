use Rattle.am_script.proofs.OwedLemmas.{stands_put, stands_put_at}
use Rattle.am_script.proofs.output.Output.put.Goals as goal

pub returns-in-Ok-clause-puts : goal.returns-in-Ok-clause-puts
returns-in-Ok-clause-puts g c = λ all start h. stands_put _ _ _ _ _ _ _ _ _ c.in-Ok.ensures.ok h

pub returns-in-Ok-try_extend_from_slice-clause-puts :
    goal.returns-in-Ok-try_extend_from_slice-clause-puts
returns-in-Ok-try_extend_from_slice-clause-puts g c = λ all start h.
    stands_put_at _ _ _ _ _ _ _ _ _ _ c.flush.ensures.line c.in-Ok-try_extend_from_slice.ensures.ok
    (c.flush.ensures.settles all start (rw c.in_default.ensures.err h))
