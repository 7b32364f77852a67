use Rattle.std.proofs.Common.{◌≡◌, length}
use Rattle.am_import_plan.proofs.order.nothing.Given as goal

abbrev pub invariant-loop-row : goal.invariant-loop-row
invariant-loop-row l = length l.seats.items ≡ l._row
