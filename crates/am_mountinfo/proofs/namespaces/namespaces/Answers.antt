use Rattle.std.proofs.Common.{eqb}
use Rattle.std.proofs.lemmas.List.Filters.{dedup_is}
use Rattle.am_mountinfo.proofs.NamespaceLemmas.{are_namespaces}
use Rattle.am_mountinfo.proofs.namespaces.namespaces.Goals as goal

pub returns : goal.returns
returns c =
    rw (dedup_is eqb _ _ c.dedup.ensures.filtered)
    (are_namespaces c.args.rows.now _ (rw c.in_ok-order.ensures at c.sort.ensures.permutation) c.in_ok-sort.ensures.sorted)
