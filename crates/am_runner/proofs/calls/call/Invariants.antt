use Rattle.am_runner.specs.{Adds, RanOut}
use Rattle.am_runner.proofs.calls.call.Given as goal

abbrev pub invariant-loop : goal.invariant-loop
invariant-loop g l = Adds (RanOut l.event) l.initial.caller.receipts l.caller.receipts
