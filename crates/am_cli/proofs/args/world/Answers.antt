use Rattle.am_cli.proofs.AskedLemmas.{in_any_err, no_world}
use Rattle.clap.specs.Words.{found_of, rows_of}
use Rattle.am_cli.proofs.args.world.Goals as goal

pub returns-in_err-number_in-clause-refused : goal.returns-in_err-number_in-clause-refused
returns-in_err-number_in-clause-refused c =
    in_any_err _ _ (no_world (rows_of (found_of c.args.given.now)) c.in_err-number_in.ensures.refused)
