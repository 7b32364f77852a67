use Rattle.am_cli.proofs.AskedLemmas.{in_any_err, no_threads}
use Rattle.clap.specs.Words.{found_of, rows_of}
use Rattle.am_cli.proofs.args.threads.Goals as goal

pub returns-in_err-number-clause-refused : goal.returns-in_err-number-clause-refused
returns-in_err-number-clause-refused c =
    in_any_err _ _ (no_threads (rows_of (found_of c.args.given.now)) (λ walkers workers rounds is those times range. c.in_err-number.ensures.refused walkers is range.0.0 range.0.1))

pub returns-in_err-number-2-clause-refused : goal.returns-in_err-number-2-clause-refused
returns-in_err-number-2-clause-refused c =
    in_any_err _ _ (no_threads (rows_of (found_of c.args.given.now)) (λ walkers workers rounds these is times range. c.in_err-number-2.ensures.refused workers is range.1.0 range.1.1))

pub returns-in_err-number-3-clause-refused : goal.returns-in_err-number-3-clause-refused
returns-in_err-number-3-clause-refused c =
    in_any_err _ _ (no_threads (rows_of (found_of c.args.given.now)) (λ walkers workers rounds these those is range. c.in_err-number-3.ensures.refused rounds is range.2.0 range.2.1))
