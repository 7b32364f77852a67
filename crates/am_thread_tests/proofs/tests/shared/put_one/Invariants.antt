use Rattle.std.proofs.Common.{◌≡◌}
use Rattle.am_thread_tests.proofs.tests.shared.put_one.Given as goal

abbrev pub invariant-loop : goal.invariant-loop
invariant-loop g l = (l.put.pipe ≡ l.fn.put.pipe) × (l.put.takers ≡ l.fn.put.takers)
