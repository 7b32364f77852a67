use Rattle.std.proofs.Common.{◌≡◌, ◌≤◌, take}
use Rattle.std.specs.List.{count_by}
use Rattle.am_runner.specs.{leaves}
use Rattle.am_runner.proofs.tally.left_in.Given as goal

abbrev pub invariant-loop-entry : goal.invariant-loop-entry
invariant-loop-entry l = record {
  count : l.left ≡ count_by leaves (take l.entry-index l.history);
  small : l.left ≤ l.entry-index;
}
