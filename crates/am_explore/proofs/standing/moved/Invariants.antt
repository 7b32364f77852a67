use Rattle.std.proofs.Common.{◌≡◌, ◌++◌, drop}
use Rattle.am_explore.specs.Standings.{moved}
use Rattle.am_explore.proofs.standing.moved.Given as goal

-- those so far, and those that are left
abbrev pub invariant-loop-n : goal.invariant-loop-n
invariant-loop-n l = l.all.items
    ++ moved l.n l.who l.answer (drop l.n l.threads) (drop l.n l.standings)
    ≡ moved 0 l.who l.answer l.threads l.standings
