use Rattle.am_names.specs.{GroupRow}
use Rattle.am_group.proofs.BlockLemmas.{pairs_are}
use Rattle.am_group.proofs.left_out.are_rows_of_groups.Goals as goal

pub returns-then-eq : goal.returns-then-eq
returns-then-eq c =
    pairs_are (λ (row : GroupRow). row.group) c.args.rows.now c.args.groups.now c.requires c.are_group_pairs.result c.are_group_pairs.ensures
