use Rattle.std.proofs.Common.{◌∙◌, ap, drop, drop-drop}
use Rattle.am_script.specs.{lines_of}
use Rattle.am_scenes.proofs.line.behind_lines.Goals as goal

pub loop-preserved : goal.loop-preserved
loop-preserved c = c.behind_first-rest.ensures ∙ ap (drop 1) c.loop.invariant
    ∙ drop-drop 1 c.loop.counter (lines_of c.args.text.now)
