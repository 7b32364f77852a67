use Rattle.am_names.specs.{MemberRow}
use Rattle.am_ordered.proofs.BlockLemmas.{block_left}
use Rattle.am_group.proofs.FindLemmas.{rows_rise}
use Rattle.am_group.proofs.left_out.place_of_block.Goals as goal

pub returns-then-stand_at-clause-left : goal.returns-then-stand_at-clause-left
returns-then-stand_at-clause-left c =
    let number = λ (row : MemberRow). row.mount in
    block_left number c.args.rows.now (rows_rise number 0 c.args.rows.now c.requires)
    c.args.gone.now c.rows_below-at.result c.if-stand_at.ensures.rows
