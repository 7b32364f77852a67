use Rattle.std.proofs.Common.{◌≤◌, ◌+◌, ◌^◌, option_copied}
use Rattle.am_script.specs.{lines_in, size_in, events_from}
use Rattle.am_mountinfo.proofs.PlayLemmas.{Playing}
use Rattle.am_world.specs.Capacity.{state_of}
use Rattle.am_mountinfo.proofs.world_text.play_events.Given as goal

abbrev pub invariant-loop-found : goal.invariant-loop-found
invariant-loop-found l = record {
  going : Playing (state_of l.fn.world) l.fn.line (events_from l.broke l.fn.line (lines_in (option_copied l.fn.rest))) (events_from l.broke l.number (lines_in (option_copied l.rest))) (state_of l.world) l.summary l.number;
  fits : l.number + size_in (option_copied l.rest) ≤ 2 ^ 63;
  lines : l.summary.lines + size_in (option_copied l.rest) ≤ 2 ^ 63;
  refused : l.summary.refused ≤ l.summary.lines;
}

abbrev pub decreases-loop-found : goal.decreases-loop-found
decreases-loop-found l = size_in (option_copied l.rest)
