use Rattle.std.proofs.Common.{Some, None, option_map, sym, ap, ◌∙◌, codes}
use Rattle.clap.specs.Words.{found_of, rows_of}
use Rattle.am_cli.proofs.AskedLemmas.{no_help}
use Rattle.am_cli.proofs.CommandLemmas.{helped_is}
use Rattle.am_cli.proofs.args.help.Goals as goal

pub returns-in_default-clause-asks : goal.returns-in_default-clause-asks
returns-in_default-clause-asks c =
    helped_is (found_of c.args.given.now) (codes "command") None (ap (option_map (λ s. s.now)) (sym c.in_default.is) ∙ c.get_str.ensures)

pub returns-in-Some-topic_named-clause-asks : goal.returns-in-Some-topic_named-clause-asks
returns-in-Some-topic_named-clause-asks c =
    helped_is (found_of c.args.given.now) (codes "command") (Some c.in-Some.name.now) (ap (option_map (λ s. s.now)) (sym c.in-Some.is) ∙ c.get_str.ensures)
    ∙ ap (option_map (λ topic. Some topic)) (sym c.in-Some-topic_named.ensures)

pub returns-in-None-clause-refused : goal.returns-in-None-clause-refused
returns-in-None-clause-refused c =
    no_help (rows_of (found_of c.args.given.now))
    (helped_is (found_of c.args.given.now) (codes "command") (Some c.in-Some.name.now) (ap (option_map (λ s. s.now)) (sym c.in-Some.is) ∙ c.get_str.ensures)
    ∙ ap (option_map (λ topic. Some topic)) (sym c.in-None.ensures))
