use Rattle.std.proofs.Common.{take}
use Rattle.std.specs.List.{flat_map}
use Rattle.am_script.specs.{Puts}
use Rattle.am_draw.specs.{groups_behind, tree_line, tree_rows}
use Rattle.am_draw.proofs.trees.put_tree_lines.Given as goal

abbrev pub invariant-loop-mount : goal.invariant-loop-mount
invariant-loop-mount g l = Puts l.fn.output l.output (flat_map (tree_line l.joint (groups_behind l.rows) (tree_rows l.rows)) (take l.mount-index l.mounts)) (g.W.Write.contents l.fn.writer) (g.W.Write.contents l.writer)
