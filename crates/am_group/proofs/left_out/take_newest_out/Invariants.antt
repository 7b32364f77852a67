use Rattle.std.proofs.Common.{◌≡◌, ◌≤◌, length, take}
use Rattle.std.specs.Prelude.{filter, not}
use Rattle.am_names.specs.{is_among}
use Rattle.am_group.specs.{RiseFrom}
use Rattle.am_group.proofs.left_out.take_newest_out.Given as goal

abbrev pub invariant-loop-count : goal.invariant-loop-count
invariant-loop-count l =
    (l.count ≤ length l.fn.gone) × RiseFrom 0 l.members.rows ×
    (filter (λ row. not (is_among (take l.count l.fn.gone) row.mount)) l.members.rows ≡
    filter (λ row. not (is_among l.fn.gone row.mount)) l.fn.members.rows)

abbrev pub decreases-loop-count : goal.decreases-loop-count
decreases-loop-count l = l.count
