use Rattle.std.proofs.Common.{◌≡◌}
use Rattle.am_thread_tests.proofs.tests.shared.put_all.Given as goal

abbrev pub invariant-loop-index : goal.invariant-loop-index
invariant-loop-index g l = (l.put.pipe ≡ l.fn.put.pipe) × (l.put.takers ≡ l.fn.put.takers)
