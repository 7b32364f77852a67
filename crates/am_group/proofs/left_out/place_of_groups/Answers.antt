use Rattle.am_names.specs.{GroupRow}
use Rattle.am_ordered.proofs.BlockLemmas.{block_left}
use Rattle.am_group.proofs.FindLemmas.{rows_rise}
use Rattle.am_group.proofs.left_out.place_of_groups.Goals as goal

pub returns-then-groups_stand_at-clause-left : goal.returns-then-groups_stand_at-clause-left
returns-then-groups_stand_at-clause-left c =
    let number = λ (row : GroupRow). row.group in
    block_left number c.args.rows.now (rows_rise number 0 c.args.rows.now c.requires)
    c.args.lost.now c.groups_below-at.result c.if-groups_stand_at.ensures.rows
