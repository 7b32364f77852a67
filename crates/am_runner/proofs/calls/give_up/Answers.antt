use Rattle.std.proofs.Common.{List, sym, subst}
use Rattle.am_machine.specs.declared.event.Event.TheVariants.{AdminCatatonic}
use Rattle.am_shared.specs.{Receipt}
use Rattle.am_runner.specs.{Adds, RanOut}
use Rattle.am_runner.proofs.CallLemmas.{adds_more, call_behind}
use Rattle.am_runner.proofs.RoleLemmas.{gave_in, gave_up}
use Rattle.am_runner.proofs.calls.give_up.Goals as goal

pub returns-in-Ok : goal.returns-in-Ok
returns-in-Ok g c =
    let event = AdminCatatonic c.args.fs in
    let old = c.args.caller.now.receipts in
    let now = c.give_up_once.new.caller.receipts in
    gave_up c.args.fs c.in-Ok._reply old now
    (call_behind event c.in-Ok._reply old c.loop.caller.receipts now c.loop.invariant c.in-Ok.ensures.ok)

pub returns-then-is_given_up_by_others : goal.returns-then-is_given_up_by_others
returns-then-is_given_up_by_others g c =
    let event = AdminCatatonic c.args.fs in
    let old = c.args.caller.now.receipts in
    let now = c.is_given_up_by_others.new.caller.receipts in
    gave_in c.args.fs old now
    (subst (λ (xs : List Receipt). Adds (RanOut event) old xs) (sym c.is_given_up_by_others.ensures)
    (adds_more (RanOut event) old c.loop.caller.receipts c.give_up_once.new.caller.receipts c.loop.invariant
    c.in-Err.ensures.err))

pub loop-preserved : goal.loop-preserved
loop-preserved g c =
    let event = AdminCatatonic c.args.fs in
    let old = c.args.caller.now.receipts in
    subst (λ (xs : List Receipt). Adds (RanOut event) old xs) (sym c.is_given_up_by_others.ensures)
    (adds_more (RanOut event) old c.loop.caller.receipts c.give_up_once.new.caller.receipts c.loop.invariant
    c.in-Err.ensures.err)
