use Rattle.std.proofs.Common.{◌≡◌, [], length}
use Rattle.am_laws.specs.{ends_in_row}
use Rattle.am_laws.proofs.ends_in_row.Given as goal

abbrev pub invariant-loop-o : goal.invariant-loop-o
invariant-loop-o l = ends_in_row [] l.rest l.token l.status ≡ ends_in_row [] l.fn.seen l.token l.status

abbrev pub decreases-loop-o : goal.decreases-loop-o
decreases-loop-o l = length l.rest
