use Rattle.std.proofs.Common.{take, map}
use Rattle.std.specs.List.{flat_map}
use Rattle.am_script.specs.{Puts}
use Rattle.am_mountinfo.specs.{mount_line}
use Rattle.am_mountinfo.proofs.mount_line.put_rows.Given as goal

abbrev pub invariant-loop-row : goal.invariant-loop-row
invariant-loop-row g l = Puts l.fn.output l.output (flat_map (mount_line l.world.kernel) (map (λ row. row.now) (take l.row-index l.rows))) (g.W.Write.contents l.fn.writer) (g.W.Write.contents l.writer)
