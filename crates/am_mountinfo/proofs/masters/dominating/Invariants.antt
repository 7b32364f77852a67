use Rattle.std.proofs.Common.{◌≡◌, find}
use Rattle.am_mountinfo.specs.{has_peer, masters_from, dominating}
use Rattle.am_mountinfo.proofs.masters.dominating.Given as goal

abbrev pub invariant-loop-above : goal.invariant-loop-above
invariant-loop-above l =
    find (has_peer l.world.kernel.table l.row.ns) (masters_from l.most l.world.kernel.table.groups l.above)
    ≡ dominating l.world.kernel.table l.row

abbrev pub decreases-loop-above : goal.decreases-loop-above
decreases-loop-above l = l.most
