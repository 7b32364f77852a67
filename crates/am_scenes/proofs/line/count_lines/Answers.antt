use Rattle.am_scenes.proofs.LineLemmas.{counted_first, lines_short}
use Rattle.am_scenes.proofs.line.count_lines.Goals as goal

pub loop-rest-init : goal.loop-rest-init
loop-rest-init c = record {
  counted = counted_first c.args.text.now;
  fits = lines_short c.args.text.now c.requires;
}
