use Rattle.std.proofs.Common.{take}
use Rattle.am_script.specs.{Puts}
use Rattle.am_mountinfo.specs.{namespaces_text}
use Rattle.am_mountinfo.proofs.world_text.put_namespaces.Given as goal

abbrev pub invariant-loop-ns : goal.invariant-loop-ns
invariant-loop-ns g l = Puts l.fn.output l.output (namespaces_text l.world.kernel (take l.ns-index l.order)) (g.W.Write.contents l.fn.writer) (g.W.Write.contents l.writer)
