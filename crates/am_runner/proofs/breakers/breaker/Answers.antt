use Rattle.am_runner.specs.{Adds, IsBreak, IsOfBreaker}
use Rattle.am_runner.proofs.CallLemmas.{many_more, many_none, many_out, on_err}
use Rattle.am_runner.proofs.RoleLemmas.{each_of_break}
use Rattle.am_runner.proofs.breakers.breaker.Goals as goal

pub loop-made-init : goal.loop-made-init
loop-made-init g c = many_none (IsBreak c.args.fs) c.args.caller.now.receipts

pub returns-in_err-break_once-clause-err : goal.returns-in_err-break_once-clause-err
returns-in_err-break_once-clause-err g c =
    on_err c.from_residual.result
    (Adds (IsOfBreaker c.args.fs) c.args.caller.now.receipts c.break_once.new.caller.receipts)
    (many_out (IsBreak c.args.fs) (IsOfBreaker c.args.fs) (each_of_break c.args.fs)
    c.loop-made._made c.args.caller.now.receipts c.loop-made.caller.receipts c.break_once.new.caller.receipts
    c.loop-made.invariant c.in_err-break_once.ensures.err)

pub loop-made-preserved : goal.loop-made-preserved
loop-made-preserved g c =
    many_more (IsBreak c.args.fs) c.loop-made._made c.args.caller.now.receipts c.loop-made.caller.receipts
    c.break_once.new.caller.receipts c.loop-made.invariant c.in_ok-break_once.ensures.ok
