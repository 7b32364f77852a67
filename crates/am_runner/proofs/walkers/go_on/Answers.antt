use Rattle.std.proofs.Common.{sym, ◌+◌, ◌∙◌}
use Rattle.am_runner.proofs.RoleLemmas.{goes_out, waits_more}
use Rattle.am_runner.proofs.walkers.go_on.Goals as goal

pub returns-then-not-has_to_wait-clause-err : goal.returns-then-not-has_to_wait-clause-err
returns-then-not-has_to_wait-clause-err g c =
    let waits = c.loop.invariant.waits in
    goes_out c.args.walker waits.0 c.resume-outcome.result c.args.caller.now.receipts c.loop.caller.receipts
    c.resume-outcome.new.caller.receipts waits.1 c.resume-outcome.ensures.err

pub loop-preserved : goal.loop-preserved
loop-preserved g c =
    let waits = c.loop.invariant.waits in record {
      can = tt;
      finite = tt;
      waits = (
        waits.0 + 1,
        waits_more c.args.walker waits.0 c.resume-outcome.result c.args.caller.now.receipts c.loop.caller.receipts
            c.resume-outcome.new.caller.receipts (sym c.has_to_wait.ensures ∙ c.if-not-has_to_wait.false)
            waits.1 c.resume-outcome.ensures.ok,
      );
    }
