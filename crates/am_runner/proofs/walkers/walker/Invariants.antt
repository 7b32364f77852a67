use Rattle.std.proofs.Common.{◌≡◌}
use Rattle.am_runner.specs.{AreMany, IsRound, Makes, walk}
use Rattle.am_runner.proofs.walkers.walker.Given as goal

abbrev pub invariant-loop-made : goal.invariant-loop-made
invariant-loop-made g l = record {
  same : l.walk ≡ walk l.walker l.path;
  rounds : Makes (AreMany (IsRound (walk l.walker l.path) l.walker) l._made) l.initial.caller.receipts
      l.caller.receipts;
}
