use Rattle.am_wait.proofs.FailLemmas.{StillFails}
use Rattle.am_wait.proofs.seating.fail_waits_at.Given as goal

abbrev pub invariant-loop-key : goal.invariant-loop-key
invariant-loop-key l = StillFails l.fn.slab l.slab l.fs l.keys l.key-iterator
