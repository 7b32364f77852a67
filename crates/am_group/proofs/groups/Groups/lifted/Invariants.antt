use Rattle.std.proofs.Common.{◌≡◌}
use Rattle.am_group.specs.{is_other_than, lifted}
use Rattle.am_group.proofs.LiftLemmas.{height}
use Rattle.am_group.proofs.groups.Groups.lifted.Given as goal

abbrev pub invariant-loop-current : goal.invariant-loop-current
invariant-loop-current l =
    lifted (is_other_than l.fn.lost) l.fn.self l.fn.master ≡ lifted (is_other_than l.fn.lost) l.fn.self l.current

abbrev pub decreases-loop-current : goal.decreases-loop-current
decreases-loop-current l = height l.current
