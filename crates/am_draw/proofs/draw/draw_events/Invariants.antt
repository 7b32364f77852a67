use Rattle.std.proofs.Common.{◌≤◌, ◌+◌, ◌^◌, option_copied}
use Rattle.am_script.specs.{lines_in, size_in, events_from}
use Rattle.am_draw.specs.{lasts_of}
use Rattle.am_draw.proofs.DrawnSoFar.{Drawing}
use Rattle.am_world.specs.Capacity.{state_of}
use Rattle.am_draw.proofs.draw.draw_events.Given as goal

abbrev pub invariant-loop-output : goal.invariant-loop-output
invariant-loop-output g l = record {
  going : Drawing l.part (state_of l.fn.world) (events_from l.broke l.fn.line (lines_in (option_copied l.fn.rest))) (events_from l.broke l.number (lines_in (option_copied l.rest))) (lasts_of l.lasting) l.output (g.W.Write.contents l.fn.writer) (g.W.Write.contents l.writer) (state_of l.world) l.summary;
  fits : l.number + size_in (option_copied l.rest) ≤ 2 ^ 63;
  lines : l.summary.lines + size_in (option_copied l.rest) ≤ 2 ^ 63;
  refused : l.summary.refused ≤ l.summary.lines;
}

abbrev pub decreases-loop-output : goal.decreases-loop-output
decreases-loop-output g l = size_in (option_copied l.rest)
