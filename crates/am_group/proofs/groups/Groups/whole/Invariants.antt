use Rattle.std.proofs.Common.{◌≡◌, take}
use Rattle.std.specs.Prelude.{filter}
use Rattle.am_group.specs.{goes_whole}
use Rattle.am_group.proofs.groups.Groups.whole.Given as goal

abbrev pub invariant-loop-group : goal.invariant-loop-group
invariant-loop-group l = l.whole.items ≡ filter (goes_whole l.fn.self.members l.fn.gone) (take l.group-index l.fn.groups)
