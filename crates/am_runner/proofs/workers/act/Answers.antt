use Rattle.std.proofs.Common.{List, inl, refl, sym, subst}
use Rattle.am_machine.specs.declared.event.Event.TheVariants.{Act}
use Rattle.am_shared.specs.{Receipt}
use Rattle.am_runner.specs.{Adds, IsActOf, IsCall, IsEnd, Makes, RanOut}
use Rattle.am_runner.proofs.CallLemmas.{adds_none, makes_none, on_err}
use Rattle.am_runner.proofs.RoleLemmas.{act_out, act_reply}
use Rattle.am_runner.proofs.workers.act.Goals as goal

pub returns-in_err-task-clause-err : goal.returns-in_err-task-clause-err
returns-in_err-task-clause-err g c =
    let job = c.args.job in
    let old = c.args.caller.now.receipts in
    let now = c.next_task.new.caller.receipts in
    on_err c.from_residual.result (Adds (IsActOf job) old now)
    (subst (λ (xs : List Receipt). Adds (IsActOf job) old xs) (sym c.next_task.ensures.receipts)
    (adds_none (IsActOf job) old))

pub returns-in_default-clause-ok : goal.returns-in_default-clause-ok
returns-in_default-clause-ok g c =
    let job = c.args.job in
    let old = c.args.caller.now.receipts in
    subst (λ (xs : List Receipt). Makes (IsEnd job) old xs) (sym c.next_task.ensures.receipts)
    (makes_none (IsEnd job) old (inl refl))

pub returns-in_err-reply-clause-err : goal.returns-in_err-reply-clause-err
returns-in_err-reply-clause-err g c =
    let job = c.args.job in
    let old = c.args.caller.now.receipts in
    let now = c.call.new.caller.receipts in
    let failure = c.perform-failure.result in
    on_err c.from_residual-in_err-reply.result (Adds (IsActOf job) old now)
    (act_out job failure old now
    (subst (λ (xs : List Receipt). Adds (RanOut (Act job failure)) xs now) c.next_task.ensures.receipts
    c.in_err-reply.ensures.err))

pub returns-clause-ok : goal.returns-clause-ok
returns-clause-ok g c =
    let job = c.args.job in
    let old = c.args.caller.now.receipts in
    let now = c.call.new.caller.receipts in
    let failure = c.perform-failure.result in
    let reply = c.in_ok-reply.reply in
    let called : Makes (IsCall (Act job failure) reply) old now =
    subst (λ (xs : List Receipt). Makes (IsCall (Act job failure) reply) xs now)
    c.next_task.ensures.receipts c.in_ok-reply.ensures.ok in
    act_reply job failure reply c.is_done.result old now (sym c.is_done.ensures) called
