use Rattle.std.proofs.Common.{ltb, rules, tests}
use Rattle.std.proofs.lemmas.List.Sorted.{IsPartitionedBy-ltb, IsPartitionPoint-from_clause}
use Rattle.am_shared.specs.{Receipt}
use Rattle.am_shared.proofs.MatchLemmas.{rise_sorted, found_at, found_nowhere}
use Rattle.am_shared.proofs.matching.has_position.Goals as goal

pub returns-in-Some : goal.returns-in-Some
returns-in-Some c =
    let rs = c.args.receipts.now in
    let k = c.args.position in
    let at = c.partition_point-at.result in
    found_at k rs at c.in-Some.receipt.now c.requires
    (IsPartitionPoint-from_clause (λ (r : Receipt). ltb r.position k) rs at
    c.partition_point-at.ensures.partitioned
    (IsPartitionedBy-ltb (λ (r : Receipt). r.position) rs k (rise_sorted 0 rs c.requires))
    (λ a r f called. search (rules, tests)))
    (search rules) c.in-Some.ensures.lookup.1

pub returns-in-None : goal.returns-in-None
returns-in-None c =
    let rs = c.args.receipts.now in
    let k = c.args.position in
    let at = c.partition_point-at.result in
    found_nowhere k rs at
    (IsPartitionPoint-from_clause (λ (r : Receipt). ltb r.position k) rs at
    c.partition_point-at.ensures.partitioned
    (IsPartitionedBy-ltb (λ (r : Receipt). r.position) rs k (rise_sorted 0 rs c.requires))
    (λ a r f called. search (rules, tests)))
    (search rules)
