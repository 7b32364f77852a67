use Rattle.std.proofs.Common.{List, ap, ◌∙◌}
use Rattle.am_kernel.specs.{WalkRow, walk_in}
use Rattle.am_kernel.proofs.WaitingLemmas.{none_left}
use Rattle.am_kernel.proofs.walks.Walks.put.Goals as goal

pub push-requires-clause-none : goal.push-requires-clause-none
push-requires-clause-none c =
    ap (λ (rows : List WalkRow). walk_in rows c.args.row.walker) c.take.ensures.rows ∙ none_left c.args.row.walker c.args.self.now.rows
