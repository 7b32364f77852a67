use Rattle.std.proofs.Common.{◌∙◌}
use Rattle.am_cli.proofs.PartLemmas.{line_parts}
use Rattle.am_cli.proofs.telling.tell_line.Goals as goal

pub returns : goal.returns
returns g c =
    let tells = g.E.Write.contents in
    line_parts (tells c.args.errors.now) (tells c.tell.new.errors) c.args.line c.args.word.now c.args.below.now c.as_bytes.result.now c.as_bytes-2.result.now (c.as_bytes.ensures.value ∙ c.format.ensures.text) c.as_bytes-2.ensures.value c.tell.ensures
