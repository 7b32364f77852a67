use Rattle.std.proofs.Common.{refl, subst}
use Rattle.am_machine.specs.{Event}
use Rattle.am_runner.specs.{Adds, IsExpiry, IsOfExpirer, IsOfSettling, Makes, Settles, expiry}
use Rattle.am_runner.proofs.CallLemmas.{many_none, many_out, on_err}
use Rattle.am_runner.proofs.RoleLemmas.{each_of_expiry, expiry_more}
use Rattle.am_runner.proofs.walkers.expirer.Goals as goal

pub loop-made-init : goal.loop-made-init
loop-made-init g c = record {
  same = refl;
  rounds = many_none (IsExpiry c.args.walker c.args.fs) c.args.caller.now.receipts;
}

pub loop-made-preserved : goal.loop-made-preserved
loop-made-preserved g c = record {
  same = c.loop-made.invariant.same;
  rounds = expiry_more (expiry c.args.walker c.args.fs) c.args.walker c.loop-made._made
      c.in_ok-settle.field-0 c.args.caller.now.receipts c.loop-made.caller.receipts c.settle.new.caller.receipts
      c.loop-made.invariant.rounds
      (subst (λ (e : Event). Makes (Settles e c.args.walker c.in_ok-settle.field-0) c.loop-made.caller.receipts
      c.settle.new.caller.receipts)
      c.loop-made.invariant.same c.in_ok-settle.ensures.ok);
}

pub returns-in_err-settle-clause-err : goal.returns-in_err-settle-clause-err
returns-in_err-settle-clause-err g c =
    on_err c.from_residual.result
    (Adds (IsOfExpirer c.args.walker c.args.fs) c.args.caller.now.receipts c.settle.new.caller.receipts)
    (many_out (IsExpiry c.args.walker c.args.fs) (IsOfExpirer c.args.walker c.args.fs)
    (each_of_expiry c.args.walker (expiry c.args.walker c.args.fs)) c.loop-made._made
    c.args.caller.now.receipts c.loop-made.caller.receipts c.settle.new.caller.receipts c.loop-made.invariant.rounds
    (subst (λ (e : Event). Adds (IsOfSettling e c.args.walker) c.loop-made.caller.receipts c.settle.new.caller.receipts)
    c.loop-made.invariant.same c.in_err-settle.ensures.err))
