use Rattle.std.specs.List.{each_same}
use Rattle.am_wait.proofs.CopyLemmas.{same_lists}
use Rattle.am_wait.proofs.openings.Openings.copy.Goals as goal

pub returns : goal.returns
returns c = λ g.
    same_lists c.args.self.now.lists.entries c.in_ok-clone.field-0.entries c.in_ok-clone.ensures.cases
    (λ p q h. (h.0, each_same p.1.items q.1.items h.1.0)) g
