use Rattle.std.proofs.Common.{IfOk, OnErr, sym, subst, ◌∙◌}
use Rattle.am_runner.specs.{Adds, IsCall, Makes, RanOut}
use Rattle.am_runner.proofs.CallLemmas.{called_err, called_ok}
use Rattle.am_runner.proofs.calls.call_once.Goals as goal

pub returns-clause-ok : goal.returns-clause-ok
returns-clause-ok g c =
    let event = c.args.event.now in
    let old = c.args.caller.now.receipts in
    let now = c.call.new.self.receipts in
    subst (λ r. IfOk r (λ reply. Makes (IsCall event reply) old now)) (sym c.ok_or.ensures.value)
    (called_ok record {} g.L.Opened.opening c.call.result c.in_ok-event.event event c.reply_to.result
    c.in-Some.receipt.now c.args.caller.now c.call.new.self (sym c.is_err.ensures.value ∙ c.if-is_err.false)
    c.call.ensures.ok c.in_ok-event.ensures c.in-Some.ensures c.reply_to.ensures)

pub returns-clause-err : goal.returns-clause-err
returns-clause-err g c =
    let event = c.args.event.now in
    let old = c.args.caller.now.receipts in
    let now = c.call.new.self.receipts in
    subst (λ r. OnErr r (Adds (RanOut event) old now)) (sym c.ok_or.ensures.value)
    (called_err record {} g.L.Opened.opening c.call.result c.in_ok-event.event event c.reply_to.result
    c.in-Some.receipt.now c.args.caller.now c.call.new.self (sym c.is_err.ensures.value ∙ c.if-is_err.false)
    c.call.ensures.ok c.in_ok-event.ensures c.in-Some.ensures c.reply_to.ensures)
