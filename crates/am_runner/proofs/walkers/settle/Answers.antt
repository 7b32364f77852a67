use Rattle.std.proofs.Common.{sym, ◌∙◌}
use Rattle.am_runner.proofs.RoleLemmas.{settles_more, settling_out}
use Rattle.am_runner.proofs.walkers.settle.Goals as goal

pub returns-then-has_to_wait-clause-ok : goal.returns-then-has_to_wait-clause-ok
returns-then-has_to_wait-clause-ok g c =
    settles_more c.args.event.now c.args.walker c.call-outcome.result c.go_on.result
    c.args.caller.now.receipts c.call-outcome.new.caller.receipts c.go_on.new.caller.receipts
    (sym c.has_to_wait.ensures ∙ c.if-has_to_wait.true) c.call-outcome.ensures.ok
    c.go_on.ensures.ok

pub returns-then-has_to_wait-clause-err : goal.returns-then-has_to_wait-clause-err
returns-then-has_to_wait-clause-err g c =
    settling_out c.args.event.now c.args.walker c.call-outcome.result c.go_on.result
    c.args.caller.now.receipts c.call-outcome.new.caller.receipts c.go_on.new.caller.receipts
    (sym c.has_to_wait.ensures ∙ c.if-has_to_wait.true) c.call-outcome.ensures.ok
    c.go_on.ensures.err
