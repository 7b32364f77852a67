use Rattle.std.proofs.Common.{◌≡◌}
use Rattle.am_runner.proofs.workers.next_task.Given as goal

abbrev pub invariant-loop : goal.invariant-loop
invariant-loop g l = l.caller.receipts ≡ l.initial.caller.receipts
