use Rattle.std.proofs.Common.{drop}
use Rattle.std.specs.Prelude.{◌↔◌}
use Rattle.am_shared.specs.{AllAway}
use Rattle.am_shared.proofs.matching.all_away.Given as goal

abbrev pub invariant-loop-receipt : goal.invariant-loop-receipt
invariant-loop-receipt g l = AllAway l.receipts l.callers ↔ AllAway (drop l.receipt-index l.receipts) l.callers
