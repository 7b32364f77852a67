use Rattle.std.proofs.Common.{◌-◌, length, take, drop}
use Rattle.am_mount.proofs.RowLemmas.{RiseFrom-take, RiseFrom-drop}
use Rattle.am_mount.proofs.among.stand_at.Goals as goal

pub are_rows_of-requires-clause-rising : goal.are_rows_of-requires-clause-rising
are_rows_of-requires-clause-rising c =
    let rows = c.args.rows.now in
    let behind = drop c.args.at rows in
    let left = length rows - c.args.at in
    RiseFrom-take (length c.args.mounts.now) 0 (take left behind)
    (RiseFrom-take left 0 behind (RiseFrom-drop c.args.at 0 rows c.requires.rising))
