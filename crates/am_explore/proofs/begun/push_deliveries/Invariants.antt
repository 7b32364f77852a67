use Rattle.std.proofs.Common.{◌≡◌, ◌++◌, drop}
use Rattle.am_explore.specs.Choices.{deliveries}
use Rattle.am_explore.proofs.begun.push_deliveries.Given as goal

abbrev pub invariant-loop-row : goal.invariant-loop-row
invariant-loop-row l = l.choices.items ++ deliveries (drop l.row-index l.queue) ≡ l.fn.choices.items
    ++ deliveries l.queue
