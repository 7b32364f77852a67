use Rattle.std.proofs.Common.{◌≡◌}
use Rattle.am_runner.specs.{AreMany, IsExpiry, Makes, expiry}
use Rattle.am_runner.proofs.walkers.expirer.Given as goal

abbrev pub invariant-loop-made : goal.invariant-loop-made
invariant-loop-made g l = record {
  same : l.expire ≡ expiry l.walker l.fn.fs;
  rounds : Makes (AreMany (IsExpiry l.walker l.fn.fs) l._made) l.initial.caller.receipts l.caller.receipts;
}
