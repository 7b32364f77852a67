use Rattle.std.proofs.Common.{subst}
use Rattle.am_machine.specs.{Event}
use Rattle.am_runner.specs.{Adds, IsOfRound, IsRound, Makes, walk}
use Rattle.am_runner.proofs.CallLemmas.{many_more, many_none, many_out, on_err}
use Rattle.am_runner.proofs.RoleLemmas.{each_of_round}
use Rattle.am_runner.proofs.walkers.walker.Goals as goal

pub loop-made-init : goal.loop-made-init
loop-made-init g c = record {
  same = c.in_ok-walk.ensures;
  rounds = many_none (IsRound (walk c.args.walker c.args.path.now) c.args.walker) c.args.caller.now.receipts;
}

pub loop-made-preserved : goal.loop-made-preserved
loop-made-preserved g c = record {
  same = c.loop-made.invariant.same;
  rounds = many_more (IsRound (walk c.args.walker c.args.path.now) c.args.walker) c.loop-made._made
      c.args.caller.now.receipts c.loop-made.caller.receipts c.round.new.caller.receipts c.loop-made.invariant.rounds
      (subst (λ (e : Event). Makes (IsRound e c.args.walker) c.loop-made.caller.receipts c.round.new.caller.receipts)
      c.loop-made.invariant.same c.in_ok-round.ensures.ok);
}

pub returns-in_err-round-clause-err : goal.returns-in_err-round-clause-err
returns-in_err-round-clause-err g c =
    let event = walk c.args.walker c.args.path.now in
    on_err c.from_residual-in_err-round.result
    (Adds (IsOfRound event c.args.walker) c.args.caller.now.receipts c.round.new.caller.receipts)
    (many_out (IsRound event c.args.walker) (IsOfRound event c.args.walker)
    (each_of_round event c.args.walker) c.loop-made._made c.args.caller.now.receipts c.loop-made.caller.receipts
    c.round.new.caller.receipts c.loop-made.invariant.rounds
    (subst (λ (e : Event). Adds (IsOfRound e c.args.walker) c.loop-made.caller.receipts c.round.new.caller.receipts)
    c.loop-made.invariant.same c.in_err-round.ensures.err))
