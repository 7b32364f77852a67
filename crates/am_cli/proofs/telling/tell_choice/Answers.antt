use Rattle.std.proofs.Common.{◌∙◌}
use Rattle.am_cli.proofs.PartLemmas.{choice_parts}
use Rattle.am_cli.proofs.telling.tell_choice.Goals as goal

pub returns : goal.returns
returns g c =
    let tells = g.E.Write.contents in
    choice_parts (tells c.args.errors.now) (tells c.tell.new.errors) c.args.place c.as_bytes.result.now (c.as_bytes.ensures.value ∙ c.format.ensures.text) c.tell.ensures
