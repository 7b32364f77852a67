use Rattle.std.proofs.Common.{◌∙◌}
use Rattle.am_cli.proofs.PartLemmas.{input_parts, near_parts}
use Rattle.am_cli.proofs.telling.tell_hint.Goals as goal

pub returns-in-Near : goal.returns-in-Near
returns-in-Near g c =
    let tells = g.E.Write.contents in
    near_parts (tells c.args.errors.now) (tells c.tell.new.errors) c.args.hint c.in-Near.topic c.as_bytes.result.now c.usage.result.now c.in-Near.is (c.as_bytes.ensures.value ∙ c.name.ensures) c.usage.ensures c.tell.ensures

pub returns-in-Input : goal.returns-in-Input
returns-in-Input g c =
    let tells = g.E.Write.contents in
    input_parts (tells c.args.errors.now) (tells c.tell-in-Input.new.errors) c.args.hint c.in-Input.topic c.as_bytes-in-Input.result.now c.as_bytes-in-Input-2.result.now c.usage-in-Input.result.now c.in-Input.is (c.as_bytes-in-Input.ensures.value ∙ c.input.ensures) (c.as_bytes-in-Input-2.ensures.value ∙ c.name-in-Input.ensures) c.usage-in-Input.ensures c.tell-in-Input.ensures
