use Rattle.std.proofs.Common.{take}
use Rattle.am_group.specs.{Unlinks}
use Rattle.am_group.proofs.lifting.unlink.Given as goal

abbrev pub invariant-loop-lift : goal.invariant-loop-lift
invariant-loop-lift l =
    Unlinks (take l.lift-index l.fn.lifts) l.fn.index l.index
