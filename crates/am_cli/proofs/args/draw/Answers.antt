use Rattle.am_cli.proofs.AskedLemmas.{in_any_err, no_draw}
use Rattle.clap.specs.Words.{found_of, rows_of}
use Rattle.am_cli.proofs.args.draw.Goals as goal

pub returns-in_err-number-clause-refused : goal.returns-in_err-number-clause-refused
returns-in_err-number-clause-refused c =
    in_any_err _ _ (no_draw (rows_of (found_of c.args.given.now)) (λ first last is to range. c.in_err-number.ensures.refused first is range.0.0 range.0.1))

pub returns-in_err-number-2-clause-refused : goal.returns-in_err-number-2-clause-refused
returns-in_err-number-2-clause-refused c =
    in_any_err _ _ (no_draw (rows_of (found_of c.args.given.now)) (λ first last from is range. c.in_err-number-2.ensures.refused last is range.1.0 range.1.1))
