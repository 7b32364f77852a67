use Rattle.std.proofs.Common.{option_copied}
use Rattle.am_script.specs.{Puts}
use Rattle.am_draw.specs.Endings.{kernel_of}
use Rattle.am_draw.specs.FailingBars.{failing_bars_in}
use Rattle.am_draw.proofs.failing_bars.put_failing_bars.Given as goal

abbrev pub invariant-loop-lane : goal.invariant-loop-lane
invariant-loop-lane g l = Puts l.fn.output l.output (failing_bars_in l.negative (kernel_of (option_copied l.ending)) l.until l.first l.lanes l.lane) (g.W.Write.contents l.fn.writer) (g.W.Write.contents l.writer)
