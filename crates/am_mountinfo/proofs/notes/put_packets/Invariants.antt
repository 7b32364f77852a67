use Rattle.std.proofs.Common.{take}
use Rattle.std.specs.List.{flat_map}
use Rattle.am_script.specs.{Puts}
use Rattle.am_mountinfo.specs.{packet_note}
use Rattle.am_mountinfo.proofs.notes.put_packets.Given as goal

abbrev pub invariant-loop-row : goal.invariant-loop-row
invariant-loop-row g l = Puts l.fn.output l.output (flat_map packet_note (take l.row-index l.world.kernel.queue)) (g.W.Write.contents l.fn.writer) (g.W.Write.contents l.writer)
