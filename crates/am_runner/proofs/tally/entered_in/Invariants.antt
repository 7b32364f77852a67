use Rattle.std.proofs.Common.{◌≡◌, ◌≤◌, take}
use Rattle.std.specs.List.{count_by}
use Rattle.am_runner.specs.{enters}
use Rattle.am_runner.proofs.tally.entered_in.Given as goal

abbrev pub invariant-loop-entry : goal.invariant-loop-entry
invariant-loop-entry l = record {
  count : l.entered ≡ count_by enters (take l.entry-index l.history);
  small : l.entered ≤ l.entry-index;
}
