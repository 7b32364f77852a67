use Rattle.std.proofs.Common.{◌≤◌, length, drop}
use Rattle.std.specs.Prelude.{filter, not}
use Rattle.am_index.specs.{SameLists}
use Rattle.am_names.specs.{is_among}
use Rattle.am_group.specs.{ListGroups}
use Rattle.am_group.proofs.groups.leaving.unlist_groups.Given as goal

abbrev pub invariant-loop-left : goal.invariant-loop-left
invariant-loop-left l =
    (l.left ≤ length l.fn.lost) ×
    ListGroups (filter (λ row. not (is_among (drop l.left l.fn.lost) row.group)) l.fn.groups) l.indexes ×
    SameLists l.fn.indexes.members l.indexes.members × SameLists l.fn.indexes.slaves l.indexes.slaves

abbrev pub decreases-loop-left : goal.decreases-loop-left
decreases-loop-left l = l.left
