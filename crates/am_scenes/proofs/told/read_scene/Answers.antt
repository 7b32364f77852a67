use Rattle.std.proofs.Common.{arith}
use Rattle.am_scenes.proofs.LineLemmas.{lines_fit}
use Rattle.am_scenes.proofs.TextLemmas.{ok_scene}
use Rattle.am_scenes.proofs.told.read_scene.Goals as goal

pub read_behind-requires-clause-short : goal.read_behind-requires-clause-short
read_behind-requires-clause-short c = omega
    (arith, lines_fit c.whole_lines-whole.result.now, c.whole_lines-whole.ensures.few, c.requires)

pub returns-in-Ok-Some-clause-ok : goal.returns-in-Ok-Some-clause-ok
returns-in-Ok-Some-clause-ok c =
    ok_scene c.args.input.now.broke c.args.input.now.text.items c.whole_lines-whole.result.now c.in-Ok-Some.opened
    c.in-Ok-Some.field-0 c.read_behind.result
    c.in-Ok-Some.field-0-is c.whole_lines-whole.ensures.value c.in-Ok-Some.ensures.ok c.read_behind.ensures.ok
