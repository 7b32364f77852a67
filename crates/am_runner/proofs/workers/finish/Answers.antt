use Rattle.std.proofs.Common.{◌+◌}
use Rattle.am_runner.specs.{Adds, IsAct, IsActOf, IsEnd, Makes}
use Rattle.am_runner.specs.declared.calls.Reply.TheVariants.{Done}
use Rattle.am_runner.proofs.CallLemmas.{many_more, many_out, match_true, on_err}
use Rattle.am_runner.proofs.RoleLemmas.{each_of_act}
use Rattle.am_runner.proofs.workers.finish.Goals as goal

pub returns-in_err-act-clause-err : goal.returns-in_err-act-clause-err
returns-in_err-act-clause-err g c =
    let job = c.args.job in
    let done = c.loop.invariant.done in
    on_err c.from_residual.result (Adds (IsActOf job) c.args.caller.now.receipts c.act.new.caller.receipts)
    (many_out (IsAct job Done) (IsActOf job) (each_of_act job Done) done.0 c.args.caller.now.receipts
    c.loop.caller.receipts c.act.new.caller.receipts done.1 c.in_err-act.ensures.err)

pub loop-preserved : goal.loop-preserved
loop-preserved g c =
    let done = c.loop.invariant.done in record {
      can = tt;
      finite = tt;
      done = (
        done.0 + 1,
        many_more (IsAct c.args.job Done) done.0 c.args.caller.now.receipts c.loop.caller.receipts
            c.act.new.caller.receipts
            done.1 (match_true c.in_ok-act.field-0
            (Makes (IsAct c.args.job Done) c.loop.caller.receipts c.act.new.caller.receipts)
            (Makes (IsEnd c.args.job) c.loop.caller.receipts c.act.new.caller.receipts) c.if-not-branch.false
            c.in_ok-act.ensures.ok),
      );
    }
