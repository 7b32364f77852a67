use Rattle.std.proofs.Common.{vec_len}
use Rattle.am_shared.specs.{opening_of}
use Rattle.am_runner.proofs.RunLemmas.{tally_of_run}
use Rattle.am_runner.proofs.threads.run_threads.Goals as goal

pub returns : goal.returns
returns g c =
    tally_of_run c.args.walkers c.args.workers c.args.rounds (vec_len c.in_ok-backends.backends)
    (opening_of c.in_ok-opening.opening) c.in_ok-ran.ran.left.items c.in_ok-ran.ran.found c.in_ok-opening.ensures
    c.in_ok-backends.ensures c.if-ran-walkers.false c.in_ok-ran.ensures.run
