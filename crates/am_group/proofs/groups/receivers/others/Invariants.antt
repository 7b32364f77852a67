use Rattle.std.proofs.Common.{◌≡◌, take}
use Rattle.std.specs.Prelude.{◌==◌, filter, not}
use Rattle.am_group.proofs.groups.receivers.others.Given as goal

abbrev pub invariant-loop-number : goal.invariant-loop-number
invariant-loop-number l = l.others.items ≡ filter (λ x. not (x == l.fn.mount)) (take l.number-index l.fn.numbers)
