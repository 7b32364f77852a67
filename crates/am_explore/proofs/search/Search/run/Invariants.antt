use Rattle.std.proofs.Common.{◌≡◌, ◌≤◌, ◌-◌, []}
use Rattle.am_explore.specs.Levels.{IsSameSearch}
use Rattle.am_explore.proofs.search.Search.run.Given as goal

abbrev pub invariant-loop-found : goal.invariant-loop-found
invariant-loop-found g l = record {
  same : IsSameSearch l.scene l.question l.fn.self.level.nodes.items l.self.level.nodes.items;
  bound : l.self.ahead.tally.states ≤ l.self.ahead.most;
  empty : l.self.ahead.next.nodes.items ≡ [];
  most : l.self.ahead.most ≡ l.fn.self.ahead.most;
}

abbrev pub decreases-loop-found : goal.decreases-loop-found
decreases-loop-found g l = l.self.ahead.most - l.self.ahead.tally.states
