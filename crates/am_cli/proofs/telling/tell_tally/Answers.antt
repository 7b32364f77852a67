use Rattle.std.proofs.Common.{◌∙◌}
use Rattle.am_cli.proofs.PartLemmas.{tally_parts}
use Rattle.am_cli.proofs.telling.tell_tally.Goals as goal

pub returns : goal.returns
returns g c =
    let tells = g.E.Write.contents in
    tally_parts (tells c.args.errors.now) (tells c.tell.new.errors) c.args.tally.now c.as_bytes.result.now c.as_bytes-2.result.now c.as_bytes-3.result.now (c.as_bytes.ensures.value ∙ c.format.ensures.text) (c.as_bytes-2.ensures.value ∙ c.format-2.ensures.text) (c.as_bytes-3.ensures.value ∙ c.format-3.ensures.text) c.tell.ensures
