use Rattle.std.proofs.Common.{◌≡◌, Some, rules, sym, ap, ◌∙◌}
use Rattle.am_names.specs.{MountRow}
use Rattle.am_mount.specs.{mount_row}
use Rattle.am_propagate.specs.Namespaces.{copy_number}
use Rattle.am_propagate.proofs.CopyingLemmas.{rises_behind}
use Rattle.am_propagate.proofs.UnmountLemmas.{found_number}
use Rattle.am_propagate.proofs.subtree.namespace.add_row_in.Goals as goal

pub row_in-requires-clause-number : goal.row_in-requires-clause-number
row_in-requires-clause-number c =
    let found : mount_row c.args.tree.now c.args.mount ≡ Some c.in-Some.row.now = search rules in
    c.requires.number ∙ ap (copy_number c.args.last c.args.mounts.now) (sym (found_number c.args.tree.now c.args.mount c.in-Some.row.now found))

pub add-requires : goal.add-requires
add-requires c =
    let found : mount_row c.args.tree.now c.args.mount ≡ Some c.in-Some.row.now = search rules in
    let numbered : c.in-Some.row.now.mount ≡ c.args.mount = found_number c.args.tree.now c.args.mount c.in-Some.row.now found in
    rises_behind c.args.tree.now c.in_ok-copy.copy c.args.number c.rows-rows.ensures.rising c.requires.above
    (ap (λ (r : MountRow). r.mount) c.in_ok-copy.ensures ∙ ap (copy_number c.args.last c.args.mounts.now) numbered ∙ sym c.requires.number)
