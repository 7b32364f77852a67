use Rattle.std.proofs.Common.{ℕ}
use Rattle.am_runner.specs.{AreMany, IsAct, Makes}
use Rattle.am_runner.specs.declared.calls.Reply.TheVariants.{Done}
use Rattle.am_runner.proofs.workers.finish.Given as goal

abbrev pub invariant-loop : goal.invariant-loop
invariant-loop g l = record {
  can : (goal.iterator-loop g).can_next l.iterator';
  finite : (goal.iterator-loop g).is_finite l.iterator';
  done : (n : ℕ) × Makes (AreMany (IsAct l.fn.job Done) n) l.fn.caller.receipts l.caller.receipts;
}
