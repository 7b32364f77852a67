use Rattle.std.proofs.Common.{rules}
use Rattle.am_mount.proofs.FindLemmas.{found_in_place}
use Rattle.am_mount.proofs.tree.row_from_end.Goals as goal

pub returns-in-Some : goal.returns-in-Some
returns-in-Some c =
    found_in_place c.args.rows.now c.requires c.saturating_sub-place.result c.args.mount
    c.in-Some.row.now (search rules) (search rules) (search rules)
