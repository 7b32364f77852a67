use Rattle.std.proofs.Common.{◌≡◌}
use Rattle.am_thread_tests.proofs.tests.shared.take_from.Given as goal

abbrev pub invariant-loop : goal.invariant-loop
invariant-loop g l = record {
  can : (goal.iterator-loop g).can_next l.iterator';
  finite : (goal.iterator-loop g).is_finite l.iterator';
  pipe : l.end.pipe ≡ l.fn.end.pipe;
}
