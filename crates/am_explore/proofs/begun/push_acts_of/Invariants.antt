use Rattle.std.proofs.Common.{◌≡◌, ◌++◌, drop}
use Rattle.std.specs.Prelude.{map}
use Rattle.am_explore.specs.Choices.{act_so}
use Rattle.am_explore.proofs.begun.push_acts_of.Given as goal

abbrev pub invariant-loop-failure : goal.invariant-loop-failure
invariant-loop-failure l = l.choices.items ++ map (act_so l.job) (drop l.failure-index l.results) ≡ l.fn.choices.items
    ++ map (act_so l.job) l.results
