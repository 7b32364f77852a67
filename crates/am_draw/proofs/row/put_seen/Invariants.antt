use Rattle.std.proofs.Common.{◌≡◌, take}
use Rattle.am_script.specs.{Puts}
use Rattle.am_draw.specs.{lasts_of, seen_behind, seen_drawn}
use Rattle.am_draw.proofs.row.put_seen.Given as goal

abbrev pub invariant-loop-obs : goal.invariant-loop-obs
invariant-loop-obs g l = record {
  lasts : lasts_of l.lasting ≡ seen_behind l.until.number (lasts_of l.fn.lasting) (take l.obs-index l.seen);
  puts : Puts l.fn.output l.output (seen_drawn l.trees.before.now l.trees.behind.now.kernel l.until (lasts_of l.fn.lasting) (take l.obs-index l.seen)) (g.W.Write.contents l.fn.writer) (g.W.Write.contents l.writer);
}
