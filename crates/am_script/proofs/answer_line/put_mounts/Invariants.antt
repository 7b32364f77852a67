use Rattle.std.proofs.Common.{take}
use Rattle.am_script.specs.{mounts_text, Puts}
use Rattle.am_script.proofs.answer_line.put_mounts.Given as goal

abbrev pub invariant-loop-mount : goal.invariant-loop-mount
invariant-loop-mount g l = Puts l.fn.output l.output (mounts_text (take l.mount-index l.mounts)) (g.W.Write.contents l.fn.writer) (g.W.Write.contents l.writer)
