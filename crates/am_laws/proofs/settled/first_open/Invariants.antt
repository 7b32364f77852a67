use Rattle.std.proofs.Common.{◌≤◌, ◌-◌, length, take}
use Rattle.am_laws.specs.{AreSettled}
use Rattle.am_laws.proofs.settled.first_open.Given as goal

abbrev pub invariant-loop-o : goal.invariant-loop-o
invariant-loop-o l = (l.settled ≤ length l.seen) × AreSettled (take l.settled l.seen) l.seen

abbrev pub decreases-loop-o : goal.decreases-loop-o
decreases-loop-o l = length l.seen - l.settled
