use Rattle.std.proofs.Common.{◌≡◌, true, false, take}
use Rattle.am_explore.specs.Levels.{AllOf, Counts, Grows, IsNoStep, LeadsTo, node_stand}
use Rattle.am_explore.specs.Orders.{IsEnd}
use Rattle.am_explore.proofs.search.look.Given as goal

abbrev pub invariant-loop-choice : goal.invariant-loop-choice
invariant-loop-choice l = record {
  grows : Grows l.scene l.node l.fn.ahead.next.nodes.items l.ahead.next.nodes.items;
  counts : Counts l.fn.ahead l.ahead;
  leads : AllOf (LeadsTo l.scene (node_stand l.node) l.ahead.next.nodes.items) (take l.choice-index l.choice-items);
  none : l.is_end ≡ true → AllOf (IsNoStep l.scene (node_stand l.node)) (take l.choice-index l.choice-items);
  some : l.is_end ≡ false → IsEnd l.scene (node_stand l.node) → ⊥;
}
