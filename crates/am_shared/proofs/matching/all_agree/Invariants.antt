use Rattle.std.proofs.Common.{drop}
use Rattle.std.specs.Prelude.{◌↔◌}
use Rattle.am_shared.specs.{AllAgreeLeft}
use Rattle.am_shared.proofs.matching.all_agree.Given as goal

abbrev pub invariant-loop-receipt : goal.invariant-loop-receipt
invariant-loop-receipt l = AllAgreeLeft l.taken l.left l.receipts ↔ AllAgreeLeft l.taken l.left (drop l.receipt-index l.receipts)
