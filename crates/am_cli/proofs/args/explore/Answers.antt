use Rattle.clap.specs.Words.{found_of, rows_of}
use Rattle.am_cli.specs.CommandLine.{AsksForNone}
use Rattle.am_cli.specs.declared.topics.Topic.TheVariants as topics
use Rattle.am_cli.proofs.AskedLemmas.{in_any_fault, no_explore, no_prefix, refused_then}
use Rattle.am_cli.proofs.args.explore.Goals as goal

pub returns-in_err-most-clause-refused : goal.returns-in_err-most-clause-refused
returns-in_err-most-clause-refused c =
    in_any_fault (AsksForNone topics.Explore (rows_of (found_of c.args.given.now))) c.from_residual.result
    (no_explore (rows_of (found_of c.args.given.now))
    (λ most is range. c.in_err-most.ensures.refused most is range.0 range.1))

pub returns-in-Err-clause-refused : goal.returns-in-Err-clause-refused
returns-in-Err-clause-refused c =
    refused_then c.in-Err.fault (no_prefix (rows_of (found_of c.args.given.now))) c.in-Err.ensures.refused
