use Rattle.std.proofs.Common.{◌≤◌, length, drop}
use Rattle.std.specs.Prelude.{filter, not}
use Rattle.am_index.specs.{SameLists}
use Rattle.am_names.specs.{is_among}
use Rattle.am_group.specs.{ListMembers}
use Rattle.am_group.proofs.groups.leaving.unlist.Given as goal

abbrev pub invariant-loop-left : goal.invariant-loop-left
invariant-loop-left l =
    (l.left ≤ length l.fn.gone) ×
    ListMembers (filter (λ row. not (is_among (drop l.left l.fn.gone) row.mount)) l.fn.members) l.indexes ×
    SameLists l.fn.indexes.below l.indexes.below

abbrev pub decreases-loop-left : goal.decreases-loop-left
decreases-loop-left l = l.left
