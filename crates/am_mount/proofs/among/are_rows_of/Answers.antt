use Rattle.std.proofs.Common.{◌≡◌, ◌-◌, length, slice_get, option_map, rules}
use Rattle.am_names.specs.{MountRow}
use Rattle.am_mount.proofs.BlockLemmas.{pairs_are, run_is}
use Rattle.am_mount.proofs.among.are_rows_of.Goals as goal

pub returns-then-are_numbered_alike : goal.returns-then-are_numbered_alike
returns-then-are_numbered_alike c =
    let rows = c.args.rows.now in
    let mounts = c.args.mounts.now in
    let last : option_map (λ (row : MountRow). row.mount) (slice_get rows (length rows - 1)) ≡ slice_get mounts (length mounts - 1) =
    search rules in
    run_is rows mounts c.requires.rising c.requires.len last c.if-are_numbered_alike.ensures

pub returns : goal.returns
returns c =
    pairs_are c.args.rows.now c.args.mounts.now c.requires.len c.are_pairs.result c.are_pairs.ensures
