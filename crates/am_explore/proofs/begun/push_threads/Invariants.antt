use Rattle.std.proofs.Common.{◌≡◌, ◌++◌, drop}
use Rattle.am_explore.specs.Choices.{thread_choices}
use Rattle.am_explore.proofs.begun.push_threads.Given as goal

abbrev pub invariant-loop-n : goal.invariant-loop-n
invariant-loop-n l = l.choices.items
    ++ thread_choices l.n (drop l.n l.threads) (drop l.n l.standings) ≡ l.fn.choices.items
    ++ thread_choices 0 l.threads l.standings
