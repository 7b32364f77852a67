use Rattle.std.proofs.Common.{◌≡◌, length}
use Rattle.am_names.specs.{parts_of, first_fault}
use Rattle.am_names.proofs.path.first_fault.Given as goal

abbrev pub invariant-loop-part : goal.invariant-loop-part
invariant-loop-part l = first_fault (parts_of l.rest) ≡ first_fault (parts_of l.fn.bytes)

abbrev pub decreases-loop-part : goal.decreases-loop-part
decreases-loop-part l = length l.rest
