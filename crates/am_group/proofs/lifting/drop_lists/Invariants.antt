use Rattle.std.proofs.Common.{take}
use Rattle.am_group.specs.{DropsAll, KeepsRooms}
use Rattle.am_group.proofs.lifting.drop_lists.Given as goal

abbrev pub invariant-loop-lift : goal.invariant-loop-lift
invariant-loop-lift l =
    DropsAll (take l.lift-index l.fn.lifts) l.fn.index l.index ×
    KeepsRooms (take l.lift-index l.fn.lifts) l.fn.index l.index
