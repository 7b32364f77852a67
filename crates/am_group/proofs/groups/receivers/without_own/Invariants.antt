use Rattle.std.proofs.Common.{◌≡◌, take}
use Rattle.std.specs.Prelude.{◌==◌, filter, not}
use Rattle.am_group.proofs.groups.receivers.without_own.Given as goal

abbrev pub invariant-loop-group : goal.invariant-loop-group
invariant-loop-group l = l.others.items ≡ filter (λ g. not (g == l.fn.own)) (take l.group-index l.fn.groups)
