use Rattle.std.proofs.Common.{take}
use Rattle.am_explore.specs.Levels.{AllOf, AreNodesAhead, Counts, IsPassed}
use Rattle.am_explore.proofs.search.turn.Given as goal

abbrev pub invariant-loop-index : goal.invariant-loop-index
invariant-loop-index g l = record {
  orders : AreNodesAhead l.scene l.level.nodes.items l.ahead.next.nodes.items;
  counts : Counts l.fn.ahead l.ahead;
  passed : AllOf (IsPassed l.scene l.question l.ahead.next.nodes.items) (take l.index l.level.nodes.items);
}
