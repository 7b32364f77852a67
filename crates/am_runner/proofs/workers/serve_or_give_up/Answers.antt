use Rattle.am_runner.proofs.RoleLemmas.{broken_and_given_up}
use Rattle.am_runner.proofs.workers.serve_or_give_up.Goals as goal

pub returns-in-Err-clause-err : goal.returns-in-Err-clause-err
returns-in-Err-clause-err g c =
    broken_and_given_up c.args.fs c.args.taken.now c.args.caller.now.receipts c.serve.new.caller.receipts
    c.give_up.new.caller.receipts
    c.in-Err.ensures.err c.give_up.ensures
