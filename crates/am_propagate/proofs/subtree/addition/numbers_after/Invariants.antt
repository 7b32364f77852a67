use Rattle.std.proofs.Common.{◌≡◌, ◌+◌}
use Rattle.am_propagate.specs.{numbers_after}
use Rattle.am_propagate.proofs.subtree.addition.numbers_after.Given as goal

abbrev pub invariant-loop : goal.invariant-loop
invariant-loop l = record {
  number : l.number ≡ l.fn.last + l.counter;
  numbers : l.mounts.items ≡ numbers_after l.fn.last l.counter;
}
