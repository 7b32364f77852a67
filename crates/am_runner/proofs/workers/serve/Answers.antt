use Rattle.std.proofs.Common.{sym, ◌∙◌}
use Rattle.am_runner.specs.{Adds, IsActOf, IsBrokenOff, Makes}
use Rattle.am_runner.proofs.CallLemmas.{err_as, on_err}
use Rattle.am_runner.proofs.RoleLemmas.{delivery_out, service_none, work_out}
use Rattle.am_runner.proofs.workers.serve.Goals as goal

pub returns-in_err-reply-clause-err : goal.returns-in_err-reply-clause-err
returns-in_err-reply-clause-err g c =
    on_err c.from_residual.result
    (Makes (IsBrokenOff c.args.taken.now) c.args.caller.now.receipts c.deliver.new.caller.receipts)
    (delivery_out c.args.taken.now c.args.caller.now.receipts c.deliver.new.caller.receipts c.in_err-reply.ensures.err)

pub returns-in_default-clause-ok : goal.returns-in_default-clause-ok
returns-in_default-clause-ok g c =
    service_none c.args.taken.now c.in_ok-reply.reply c.args.caller.now.receipts c.deliver.new.caller.receipts
    (sym c.job.ensures ∙ c.in_default.is) c.in_ok-reply.ensures.ok

pub returns-clause-err : goal.returns-clause-err
returns-clause-err g c =
    err_as c.finish.result (Adds (IsActOf c.in-Some.job) c.deliver.new.caller.receipts c.finish.new.caller.receipts)
    (Makes (IsBrokenOff c.args.taken.now) c.args.caller.now.receipts c.finish.new.caller.receipts)
    (work_out c.args.taken.now c.in_ok-reply.reply c.in-Some.job c.args.caller.now.receipts
    c.deliver.new.caller.receipts c.finish.new.caller.receipts (sym c.job.ensures ∙ c.in-Some.is)
    c.in_ok-reply.ensures.ok) c.finish.ensures.err
