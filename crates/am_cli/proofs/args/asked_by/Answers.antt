use Rattle.std.proofs.Common.{Option, IfErr, IfOk, subst}
use Rattle.clap.specs.Words.{found_of, rows_of}
use Rattle.am_cli.specs.Args.{RefusedFor}
use Rattle.am_cli.specs.CommandLine.{AsksBy, AsksByNone}
use Rattle.am_cli.specs.declared.topics.Topic.{Topic}
use Rattle.am_cli.proofs.args.asked_by.Goals as goal

pub returns-in-Some-clause-asks : goal.returns-in-Some-clause-asks
returns-in-Some-clause-asks c =
    subst (λ (t : Option Topic). IfOk c.asked.result (AsksBy t (rows_of (found_of c.args.given.now)))) c.in-Some.ensures c.asked.ensures.asks

pub returns-in-Some-clause-refused : goal.returns-in-Some-clause-refused
returns-in-Some-clause-refused c =
    subst (λ (t : Option Topic). IfErr c.asked.result (RefusedFor (AsksByNone t (rows_of (found_of c.args.given.now))))) c.in-Some.ensures c.asked.ensures.refused

pub returns-in-None-clause-refused : goal.returns-in-None-clause-refused
returns-in-None-clause-refused c =
    subst (λ (t : Option Topic). AsksByNone t (rows_of (found_of c.args.given.now))) c.in-None.ensures (λ args asks range. asks)
