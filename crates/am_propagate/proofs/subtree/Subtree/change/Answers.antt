use Rattle.am_propagate.specs.View.{table_of}
use Rattle.am_propagate.proofs.KindLemmas.{changed_whole}
use Rattle.am_propagate.proofs.subtree.Subtree.change.Goals as goal

pub invariant_of-self-2 : goal.invariant_of-self-2
invariant_of-self-2 c = rw (c.in_ok-change.ensures.ok) (changed_whole (table_of c.self.inside) c.self.invariant c.args.change c.args.mount)
