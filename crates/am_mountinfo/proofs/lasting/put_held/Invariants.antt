use Rattle.std.proofs.Common.{take}
use Rattle.std.specs.List.{flat_map}
use Rattle.am_script.specs.{Puts}
use Rattle.am_mountinfo.specs.{held_note}
use Rattle.am_mountinfo.proofs.lasting.put_held.Given as goal

abbrev pub invariant-loop-index : goal.invariant-loop-index
invariant-loop-index g l = Puts l.fn.output l.output (flat_map held_note (take l.index l.world.daemon.held)) (g.W.Write.contents l.fn.writer) (g.W.Write.contents l.writer)
