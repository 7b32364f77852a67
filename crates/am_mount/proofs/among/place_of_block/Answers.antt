use Rattle.am_names.specs.{MountRow}
use Rattle.am_ordered.proofs.BlockLemmas.{block_left}
use Rattle.am_mount.proofs.BlockLemmas.{block_within}
use Rattle.am_mount.proofs.FindLemmas.{rows_rise}
use Rattle.am_mount.proofs.among.place_of_block.Goals as goal

pub returns-then-stand_at-clause-within : goal.returns-then-stand_at-clause-within
returns-then-stand_at-clause-within c =
    block_within c.args.rows.now c.args.gone.now c.rows_below-at.result c.rows_below-at.ensures.bound c.if-stand_at.ensures

pub returns-then-stand_at-clause-left : goal.returns-then-stand_at-clause-left
returns-then-stand_at-clause-left c =
    block_left (λ (row : MountRow). row.mount) c.args.rows.now (rows_rise 0 c.args.rows.now c.requires)
    c.args.gone.now c.rows_below-at.result c.if-stand_at.ensures
