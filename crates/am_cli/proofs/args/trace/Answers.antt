use Rattle.am_cli.proofs.AskedLemmas.{in_any_err, no_trace}
use Rattle.clap.specs.Words.{found_of, rows_of}
use Rattle.am_cli.proofs.args.trace.Goals as goal

pub returns-in_err-flag-clause-refused : goal.returns-in_err-flag-clause-refused
returns-in_err-flag-clause-refused c =
    in_any_err _ _ (no_trace (rows_of (found_of c.args.given.now)) c.in_err-flag.ensures.refused)
