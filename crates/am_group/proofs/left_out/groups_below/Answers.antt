use Rattle.std.proofs.Common.{rules, of_calls, tests, ltb}
use Rattle.std.proofs.lemmas.Fn.{always_returns_same}
use Rattle.std.proofs.lemmas.List.Sorted.{IsPartitionedBy-ltb}
use Rattle.am_names.specs.{GroupRow}
use Rattle.am_group.proofs.FindLemmas.{numbers_ordered, point_is}
use Rattle.am_group.proofs.left_out.groups_below.Goals as goal

pub returns-clause-exact : goal.returns-clause-exact
returns-clause-exact c =
    let number = λ (row : GroupRow). row.group in
    let point =
    c.partition_point.ensures.partitioned (λ row. ltb row.group c.args.group)
    (always_returns_same _ _ _ (λ a r f k. search (rules, of_calls, tests)))
    (IsPartitionedBy-ltb number c.args.rows.now c.args.group
    (numbers_ordered number c.args.rows.now c.requires)) in
    point_is number c.args.group c.partition_point.result c.args.rows.now c.partition_point.ensures.bound point
