use Rattle.std.proofs.Common.{take}
use Rattle.am_script.specs.{Puts}
use Rattle.am_views.specs.{obs_lines}
use Rattle.am_serve.proofs.text.put_seen.Given as goal

abbrev pub invariant-loop-obs : goal.invariant-loop-obs
invariant-loop-obs g l = Puts l.fn.output l.output (obs_lines (take l.obs-index l.seen)) (g.W.Write.contents l.fn.writer) (g.W.Write.contents l.writer)
