use Rattle.std.proofs.Common.{ℕ}
use Rattle.am_runner.specs.{AreMany, IsCall, Makes, resume}
use Rattle.am_runner.specs.declared.calls.Reply.TheVariants.{Wait}
use Rattle.am_runner.proofs.walkers.go_on.Given as goal

abbrev pub invariant-loop : goal.invariant-loop
invariant-loop g l = record {
  can : (goal.iterator-loop g).can_next l.iterator';
  finite : (goal.iterator-loop g).is_finite l.iterator';
  waits : (n : ℕ) × Makes (AreMany (IsCall (resume l.fn.walker) Wait) n) l.fn.caller.receipts l.caller.receipts;
}
