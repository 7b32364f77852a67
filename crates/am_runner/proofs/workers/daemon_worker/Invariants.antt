use Rattle.std.proofs.Common.{◌≡◌}
use Rattle.std.specs.Prelude.{OnOk}
use Rattle.am_runner.specs.{IsService, IsTried, Serves}
use Rattle.am_runner.proofs.workers.daemon_worker.Given as goal

abbrev pub invariant-loop : goal.invariant-loop
invariant-loop g l = record {
  can : (goal.iterator-loop g).can_next l.iterator';
  finite : (goal.iterator-loop g).is_finite l.iterator';
  pipe : l.taker.pipe ≡ l.fn.taker.pipe;
  tried : Serves (IsTried l.fn.fs) l.fn.taker.got l.taker.got l.fn.caller.receipts l.caller.receipts;
  served : OnOk l.outcome (Serves IsService l.fn.taker.got l.taker.got l.fn.caller.receipts l.caller.receipts);
}
