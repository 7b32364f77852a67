use Rattle.std.proofs.Common.{rules}
use Rattle.am_runner.specs.{IsService, IsTried, Serves}
use Rattle.am_runner.proofs.CallLemmas.{ok_as}
use Rattle.am_runner.proofs.RoleLemmas.{serves_more, tried_given_up, tried_service}
use Rattle.am_runner.proofs.workers.daemon_worker.Goals as goal

pub loop-preserved-in-Ok : goal.loop-preserved-in-Ok
loop-preserved-in-Ok g c =
    let fs = c.args.fs in
    let got = c.args.taker.now.got in
    let old = c.args.caller.now.receipts in
    let x = c.in-Some-wait.taken in
    let b = c.loop.caller.receipts in
    let now = c.serve_or_give_up.new.caller.receipts in record {
      can = tt;
      finite = tt;
      pipe = search rules;
      tried = serves_more (IsTried fs) got c.loop.taker.got c.wait.new.self.got x old b now
          c.loop.invariant.tried c.in-Some-wait.ensures.got
          (tried_service fs x b now c.in-Ok.ensures.ok);
      served = ok_as c.loop.outcome (Serves IsService got c.loop.taker.got old b)
          (Serves IsService got c.wait.new.self.got old now)
          (λ served. serves_more IsService got c.loop.taker.got c.wait.new.self.got x old b now
          served c.in-Some-wait.ensures.got c.in-Ok.ensures.ok) c.loop.invariant.served;
    }

pub loop-preserved : goal.loop-preserved
loop-preserved g c =
    let fs = c.args.fs in
    let x = c.in-Some-wait.taken in
    let b = c.loop.caller.receipts in
    let now = c.serve_or_give_up.new.caller.receipts in record {
      can = tt;
      finite = tt;
      pipe = search rules;
      tried = serves_more (IsTried fs) c.args.taker.now.got c.loop.taker.got c.wait.new.self.got x
          c.args.caller.now.receipts b now c.loop.invariant.tried c.in-Some-wait.ensures.got
          (tried_given_up fs x b now c.in-Err.ensures.err);
      served = tt;
    }
