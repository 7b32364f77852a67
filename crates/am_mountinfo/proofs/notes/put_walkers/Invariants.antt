use Rattle.std.proofs.Common.{take}
use Rattle.am_script.specs.{Puts}
use Rattle.am_mountinfo.specs.{walkers_text}
use Rattle.am_mountinfo.proofs.notes.put_walkers.Given as goal

abbrev pub invariant-loop-walker : goal.invariant-loop-walker
invariant-loop-walker g l = Puts l.fn.output l.output (walkers_text (take l.walker-index l.walkers)) (g.W.Write.contents l.fn.writer) (g.W.Write.contents l.writer)
