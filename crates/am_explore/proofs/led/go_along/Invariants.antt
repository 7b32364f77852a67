use Rattle.std.proofs.Common.{take}
use Rattle.am_explore.specs.Leads.{AreTaken}
use Rattle.am_explore.specs.Orders.{stand_of}
use Rattle.am_explore.proofs.led.go_along.Given as goal

abbrev pub invariant-loop-at : goal.invariant-loop-at
invariant-loop-at l =
    AreTaken l.scene (stand_of l.fn.way.begun) (take l.at l.numbers) l.way.choices.items l.way.answers.items
    (stand_of l.way.begun)
