use Rattle.std.proofs.Common.{◌≡◌, ◌≤◌, ◌+◌, option_copied}
use Rattle.am_script.specs.{lines_in, size_in, events_from}
use Rattle.am_script.proofs.visit.next_event.Given as goal

abbrev pub invariant-loop-rest : goal.invariant-loop-rest
invariant-loop-rest l = record {
  same : events_from l.broke l.fn.line (lines_in (option_copied l.fn.rest)) ≡ events_from l.broke l.number (lines_in (option_copied l.rest));
  fits : l.number + size_in (option_copied l.rest) ≤ l.fn.line + size_in (option_copied l.fn.rest);
  fewer : size_in (option_copied l.rest) ≤ size_in (option_copied l.fn.rest);
}

abbrev pub decreases-loop-rest : goal.decreases-loop-rest
decreases-loop-rest l = size_in (option_copied l.rest)
