use Rattle.std.proofs.Common.{◌≡◌, sym, subst}
use Rattle.std.specs.Prelude.{filter, not}
use Rattle.am_group.specs.{without}
use Rattle.am_names.specs.{is_among}
use Rattle.am_propagate.specs.MountTable.{MountTable}
use Rattle.am_propagate.specs.{LeavesParents}
use Rattle.am_propagate.specs.View.{table_of}
use Rattle.am_propagate.proofs.RemovalLemmas.{removed_whole}
use Rattle.am_propagate.proofs.subtree.Subtree.remove.Goals as goal

pub invariant_of-self-2 : goal.invariant_of-self-2
invariant_of-self-2 c =
    let gone = c.args.gone.now in
    let rows : c.remove_all.new.self ≡ filter (λ row. not (is_among gone row.mount)) c.self.inside.tree = c.remove_all.ensures in
    let groups : c.leave.new.self ≡ without (is_among gone) c.self.inside.groups = c.in_ok-leave.ensures.ok in
    rw (rows, groups) (removed_whole (table_of c.self.inside) c.self.invariant gone (subst (λ (t : MountTable). LeavesParents gone t) (sym c.self.view_is) c.requires))
