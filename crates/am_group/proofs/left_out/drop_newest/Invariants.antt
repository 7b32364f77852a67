use Rattle.std.proofs.Common.{◌≡◌, ◌≤◌, length, take}
use Rattle.std.specs.Prelude.{filter, not}
use Rattle.am_names.specs.{is_among}
use Rattle.am_group.specs.Invariant.{GroupsRise}
use Rattle.am_group.proofs.left_out.drop_newest.Given as goal

abbrev pub invariant-loop-count : goal.invariant-loop-count
invariant-loop-count l =
    (l.count ≤ length l.fn.lost) × GroupsRise l.groups.rows ×
    (filter (λ row. not (is_among (take l.count l.fn.lost) row.group)) l.groups.rows ≡
    filter (λ row. not (is_among l.fn.lost row.group)) l.fn.groups.rows)

abbrev pub decreases-loop-count : goal.decreases-loop-count
decreases-loop-count l = l.count
