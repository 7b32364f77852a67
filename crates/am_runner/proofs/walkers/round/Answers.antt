use Rattle.std.proofs.Common.{sym, ◌∙◌}
use Rattle.am_runner.specs.{Adds, IsOfRound}
use Rattle.am_runner.proofs.CallLemmas.{on_err}
use Rattle.am_runner.proofs.RoleLemmas.{leave_out, round_over}
use Rattle.am_runner.proofs.walkers.round.Goals as goal

pub returns-in_err-call-clause-err : goal.returns-in_err-call-clause-err
returns-in_err-call-clause-err g c =
    on_err c.from_residual-in_err-call.result
    (Adds (IsOfRound c.args.walk.now c.args.walker) c.args.caller.now.receipts c.call.new.caller.receipts)
    (leave_out c.args.walk.now c.args.walker c.in_ok-reply.reply c.args.caller.now.receipts
    c.settle.new.caller.receipts c.call.new.caller.receipts c.in_ok-reply.ensures.ok c.in_err-call.ensures.err)

pub returns-else-is_arrival-clause-ok : goal.returns-else-is_arrival-clause-ok
returns-else-is_arrival-clause-ok g c =
    round_over c.args.walk.now c.args.walker c.in_ok-reply.reply c.args.caller.now.receipts
    c.settle.new.caller.receipts (sym c.is_arrival.ensures ∙ c.if-is_arrival.false)
    c.in_ok-reply.ensures.ok
