use Rattle.am_names.specs.{MemberRow}
use Rattle.am_group.proofs.BlockLemmas.{pairs_are}
use Rattle.am_group.proofs.left_out.are_rows_of.Goals as goal

pub returns-then-eq : goal.returns-then-eq
returns-then-eq c =
    pairs_are (λ (row : MemberRow). row.mount) c.args.rows.now c.args.mounts.now c.requires c.are_pairs.result c.are_pairs.ensures
