use Rattle.std.proofs.Common.{◌≡◌, take}
use Rattle.std.specs.Prelude.{filter, not}
use Rattle.am_names.specs.{is_among}
use Rattle.am_group.proofs.left_out.leave_each_out.Given as goal

abbrev pub invariant-loop-mount : goal.invariant-loop-mount
invariant-loop-mount l = l.members.rows ≡ filter (λ row. not (is_among (take l.mount-index l.fn.gone) row.mount)) l.initial.members.rows
