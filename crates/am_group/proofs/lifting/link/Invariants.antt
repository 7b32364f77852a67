use Rattle.std.proofs.Common.{take}
use Rattle.am_group.specs.{Links}
use Rattle.am_group.proofs.lifting.link.Given as goal

abbrev pub invariant-loop-lift : goal.invariant-loop-lift
invariant-loop-lift l =
    Links (take l.lift-index l.fn.lifts) l.fn.index l.index
