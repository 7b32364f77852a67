use Rattle.std.proofs.Common.{sym, rules}
use Rattle.am_propagate.proofs.SearchLemmas.{count_at}
use Rattle.am_propagate.proofs.subtree.namespace.count_by_number.Goals as goal

pub returns-then-eq-clause-count : goal.returns-then-eq-clause-count
returns-then-eq-clause-count c =
    sym (count_at c.args.mounts.now c.requires c.args.mount c.saturating_sub-place.result (search rules) (search rules))
