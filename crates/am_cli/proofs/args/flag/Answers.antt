use Rattle.std.proofs.Common.{Some, None, option_map, sym, ap, ◌∙◌}
use Rattle.clap.specs.Words.{found_of}
use Rattle.am_cli.proofs.CommandLemmas.{flagged_is}
use Rattle.am_cli.proofs.args.flag.Goals as goal

pub returns-in_default-clause-refused : goal.returns-in_default-clause-refused
returns-in_default-clause-refused c =
    flagged_is (found_of c.args.given.now) c.args.id.now None (ap (option_map (λ s. s.now)) (sym c.in_default.is) ∙ c.get_str.ensures)

pub returns-in-Some-flag_of-clause-read : goal.returns-in-Some-flag_of-clause-read
returns-in-Some-flag_of-clause-read c =
    flagged_is (found_of c.args.given.now) c.args.id.now (Some c.in-Some.word.now) (ap (option_map (λ s. s.now)) (sym c.in-Some.is) ∙ c.get_str.ensures)
    ∙ sym c.in-Some-flag_of.ensures

pub returns-in-None-clause-refused : goal.returns-in-None-clause-refused
returns-in-None-clause-refused c =
    flagged_is (found_of c.args.given.now) c.args.id.now (Some c.in-Some.word.now) (ap (option_map (λ s. s.now)) (sym c.in-Some.is) ∙ c.get_str.ensures)
    ∙ sym c.in-None.ensures
