use Rattle.std.proofs.Common.{take}
use Rattle.am_script.specs.{Puts}
use Rattle.am_draw.specs.{tree_marks}
use Rattle.am_draw.specs.Trees.{tree_rows}
use Rattle.am_draw.proofs.trees.put_tree_marks.Given as goal

abbrev pub invariant-loop-mount : goal.invariant-loop-mount
invariant-loop-mount g l = Puts l.fn.output l.output (tree_marks l.symbol (tree_rows l.rows) (take l.mount-index l.mounts)) (g.W.Write.contents l.fn.writer) (g.W.Write.contents l.writer)
