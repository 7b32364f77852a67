use Rattle.am_runner.specs.{Adds, IsOfBreaker}
use Rattle.am_runner.proofs.CallLemmas.{on_err}
use Rattle.am_runner.proofs.RoleLemmas.{break_calls, catatonic_out, reattachment_out}
use Rattle.am_runner.proofs.breakers.break_once.Goals as goal

pub returns-in_err-call-2-clause-err : goal.returns-in_err-call-2-clause-err
returns-in_err-call-2-clause-err g c =
    on_err c.from_residual-in_err-call-2.result
    (Adds (IsOfBreaker c.args.fs) c.args.caller.now.receipts c.call-2.new.caller.receipts)
    (catatonic_out c.args.fs c.in_ok-call.field-0 c.args.caller.now.receipts c.call.new.caller.receipts
    c.call-2.new.caller.receipts c.in_ok-call.ensures.ok c.in_err-call-2.ensures.err)

pub returns-in_err-call-3-clause-err : goal.returns-in_err-call-3-clause-err
returns-in_err-call-3-clause-err g c =
    on_err c.from_residual-in_err-call-3.result
    (Adds (IsOfBreaker c.args.fs) c.args.caller.now.receipts c.call-3.new.caller.receipts)
    (reattachment_out c.args.fs c.in_ok-call.field-0 c.in_ok-call-2.field-0 c.args.caller.now.receipts
    c.call.new.caller.receipts c.call-2.new.caller.receipts c.call-3.new.caller.receipts c.in_ok-call.ensures.ok
    c.in_ok-call-2.ensures.ok c.in_err-call-3.ensures.err)

pub returns-clause-ok : goal.returns-clause-ok
returns-clause-ok g c =
    break_calls c.args.fs c.in_ok-call.field-0 c.in_ok-call-2.field-0 c.in_ok-call-3.field-0
    c.args.caller.now.receipts c.call.new.caller.receipts c.call-2.new.caller.receipts c.call-3.new.caller.receipts
    c.in_ok-call.ensures.ok c.in_ok-call-2.ensures.ok c.in_ok-call-3.ensures.ok
