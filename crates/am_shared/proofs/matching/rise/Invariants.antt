use Rattle.std.proofs.Common.{drop}
use Rattle.std.specs.Prelude.{◌↔◌}
use Rattle.am_shared.specs.{Rise}
use Rattle.am_shared.proofs.matching.rise.Given as goal

abbrev pub invariant-loop-receipt : goal.invariant-loop-receipt
invariant-loop-receipt l = Rise 0 l.receipts ↔ Rise l.low (drop l.receipt-index l.receipts)
