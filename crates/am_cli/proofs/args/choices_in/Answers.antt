use Rattle.std.proofs.Common.{◌≡◌, ℕ, List, Some, None, Option, IfOk, IfErr, option_map, subst, sym, ap, ◌∙◌}
use Rattle.clap.specs.Words.{found_of}
use Rattle.am_cli.specs.Args.{RefusedFor}
use Rattle.am_cli.specs.Choices.{prefix_read}
use Rattle.am_cli.proofs.CommandLemmas.{prefix_is}
use Rattle.am_cli.proofs.args.choices_in.Goals as goal

pub returns-in-Some-clause-read : goal.returns-in-Some-clause-read
returns-in-Some-clause-read c =
    let word : prefix_read c.as_bytes.result.now ≡ prefix_read c.in-Some.word.now = ap prefix_read c.as_bytes.ensures.value in
    subst (λ (read : Option (List ℕ)). IfOk c.read_prefix.result (λ choices. read ≡ Some choices.items))
    (word ∙ sym (prefix_is (found_of c.args.given.now) c.args.id.now (Some c.in-Some.word.now) (ap (option_map (λ s. s.now)) (sym c.in-Some.is) ∙ c.get_str.ensures))) c.read_prefix.ensures.read

pub returns-in-Some-clause-refused : goal.returns-in-Some-clause-refused
returns-in-Some-clause-refused c =
    let word : prefix_read c.as_bytes.result.now ≡ prefix_read c.in-Some.word.now = ap prefix_read c.as_bytes.ensures.value in
    subst (λ (read : Option (List ℕ)). IfErr c.read_prefix.result (RefusedFor (read ≡ None)))
    (word ∙ sym (prefix_is (found_of c.args.given.now) c.args.id.now (Some c.in-Some.word.now) (ap (option_map (λ s. s.now)) (sym c.in-Some.is) ∙ c.get_str.ensures))) c.read_prefix.ensures.refused

pub returns-in-None-clause-read : goal.returns-in-None-clause-read
returns-in-None-clause-read c =
    prefix_is (found_of c.args.given.now) c.args.id.now None (ap (option_map (λ s. s.now)) (sym c.in-None.is) ∙ c.get_str.ensures)
    ∙ ap (λ (choices : List ℕ). Some choices) (sym c.new.ensures.items)
