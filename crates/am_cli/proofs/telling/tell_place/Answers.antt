use Rattle.std.proofs.Common.{◌∙◌}
use Rattle.am_cli.proofs.PartLemmas.{place_parts}
use Rattle.am_cli.proofs.telling.tell_place.Goals as goal

pub returns : goal.returns
returns g c =
    let tells = g.E.Write.contents in
    place_parts (tells c.args.errors.now) (tells c.tell.new.errors) c.args.line c.args.column c.args.expected.now c.as_bytes.result.now c.as_bytes-2.result.now c.as_bytes-3.result.now (c.as_bytes.ensures.value ∙ c.format.ensures.text) (c.as_bytes-2.ensures.value ∙ c.format-2.ensures.text) c.as_bytes-3.ensures.value c.tell.ensures
