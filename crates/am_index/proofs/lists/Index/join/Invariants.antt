use Rattle.std.proofs.Common.{◌≤◌, length}
use Rattle.am_index.specs.{listed}
use Rattle.am_index.proofs.JoinLemmas.{JoinsFirst}
use Rattle.am_index.proofs.lists.Index.join.Given as goal

abbrev pub invariant-loop-at : goal.invariant-loop-at
invariant-loop-at l =
    (l.at ≤ length (listed l.fn.self l.fn.from)) × JoinsFirst l.at l.fn.from l.fn.to l.fn.self l.self
