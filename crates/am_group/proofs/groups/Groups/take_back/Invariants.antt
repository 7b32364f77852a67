use Rattle.std.proofs.Common.{◌≡◌}
use Rattle.am_group.specs.{without_newest}
use Rattle.am_group.proofs.groups.Groups.take_back.Given as goal

abbrev pub invariant-loop : goal.invariant-loop
invariant-loop l = l.self ≡ without_newest l.counter l.fn.self
