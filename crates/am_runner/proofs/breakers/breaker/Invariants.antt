use Rattle.am_runner.specs.{AreMany, IsBreak, Makes}
use Rattle.am_runner.proofs.breakers.breaker.Given as goal

abbrev pub invariant-loop-made : goal.invariant-loop-made
invariant-loop-made g l = Makes (AreMany (IsBreak l.fs) l._made) l.initial.caller.receipts l.caller.receipts
