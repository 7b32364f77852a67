use Rattle.std.proofs.Common.{◌≡◌, ◌≤◌, take}
use Rattle.std.specs.List.{count_by}
use Rattle.am_runner.specs.Runs.{is_round}
use Rattle.am_runner.proofs.tally.rounds_in.Given as goal

abbrev pub invariant-loop-entry : goal.invariant-loop-entry
invariant-loop-entry l = record {
  count : l.rounds ≡ count_by is_round (take l.entry-index l.history);
  small : l.rounds ≤ l.entry-index;
}
