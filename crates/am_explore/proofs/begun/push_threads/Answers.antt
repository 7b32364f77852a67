use Rattle.std.proofs.Common.{sym, ◌∙◌, arith}
use Rattle.am_explore.proofs.ListLemmas.{one_ended, threads_given}
use Rattle.am_explore.proofs.begun.push_threads.Goals as goal

pub returns : goal.returns
returns c =
    sym (threads_given c.loop-n.choices.items c.args.threads.now c.args.standings.now c.loop-n.n
    (one_ended _ _ _ (omega arith))) ∙ c.loop-n.invariant
