use Rattle.std.proofs.Common.{◌≡◌, take}
use Rattle.std.specs.Prelude.{filter, not}
use Rattle.am_names.specs.{is_among}
use Rattle.am_group.proofs.left_out.drop_each.Given as goal

abbrev pub invariant-loop-group : goal.invariant-loop-group
invariant-loop-group l = l.groups.rows ≡ filter (λ row. not (is_among (take l.group-index l.fn.lost) row.group)) l.initial.groups.rows
