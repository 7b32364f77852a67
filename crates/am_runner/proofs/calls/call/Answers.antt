use Rattle.am_runner.specs.{RanOut}
use Rattle.am_runner.proofs.CallLemmas.{adds_more, call_behind}
use Rattle.am_runner.proofs.calls.call.Goals as goal

pub loop-preserved : goal.loop-preserved
loop-preserved g c =
    adds_more (RanOut c.args.event.now) c.args.caller.now.receipts c.loop.caller.receipts
    c.call_once.new.caller.receipts
    c.loop.invariant c.in-Err.ensures.err

pub returns-in-Ok-clause-ok : goal.returns-in-Ok-clause-ok
returns-in-Ok-clause-ok g c =
    call_behind c.args.event.now c.in-Ok.reply c.args.caller.now.receipts c.loop.caller.receipts
    c.call_once.new.caller.receipts c.loop.invariant c.in-Ok.ensures.ok
