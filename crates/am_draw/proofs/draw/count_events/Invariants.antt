use Rattle.std.proofs.Common.{◌≤◌, ◌+◌, ◌^◌, option_copied}
use Rattle.am_script.specs.{lines_in, size_in, events_from}
use Rattle.am_draw.specs.{lasts_of}
use Rattle.am_draw.proofs.CountLemmas.{Counting}
use Rattle.am_world.specs.Capacity.{state_of}
use Rattle.am_draw.proofs.draw.count_events.Given as goal

abbrev pub invariant-loop-found : goal.invariant-loop-found
invariant-loop-found l = record {
  counting : Counting (state_of l.fn.world) (events_from l.broke l.fn.line (lines_in (option_copied l.fn.rest))) (events_from l.broke l.number (lines_in (option_copied l.rest))) l.events (lasts_of l.lasting) (state_of l.world);
  fits : l.number + size_in (option_copied l.rest) ≤ 2 ^ 63;
  most : l.events + size_in (option_copied l.rest) ≤ 2 ^ 63;
}

abbrev pub decreases-loop-found : goal.decreases-loop-found
decreases-loop-found l = size_in (option_copied l.rest)
