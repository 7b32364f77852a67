use Rattle.std.proofs.Common.{◌≤◌, length}
use Rattle.am_index.specs.{listed}
use Rattle.am_index.proofs.JoinLemmas.{PartsLast}
use Rattle.am_index.proofs.lists.Index.part.Given as goal

abbrev pub invariant-loop-left : goal.invariant-loop-left
invariant-loop-left l =
    (l.left ≤ length (listed l.fn.self l.fn.from)) × PartsLast l.left l.fn.from l.fn.to l.fn.self l.self

abbrev pub decreases-loop-left : goal.decreases-loop-left
decreases-loop-left l = l.left
