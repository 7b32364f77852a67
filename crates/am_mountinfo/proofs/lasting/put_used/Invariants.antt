use Rattle.std.proofs.Common.{take}
use Rattle.std.specs.List.{flat_map}
use Rattle.am_script.specs.{Puts}
use Rattle.am_mountinfo.specs.{used_note}
use Rattle.am_mountinfo.proofs.lasting.put_used.Given as goal

abbrev pub invariant-loop-index : goal.invariant-loop-index
invariant-loop-index g l = Puts l.fn.output l.output (flat_map used_note (take l.index l.triggers.rows.uses)) (g.W.Write.contents l.fn.writer) (g.W.Write.contents l.writer)
