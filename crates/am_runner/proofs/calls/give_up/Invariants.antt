use Rattle.am_machine.specs.declared.event.Event.TheVariants.{AdminCatatonic}
use Rattle.am_runner.specs.{Adds, RanOut}
use Rattle.am_runner.proofs.calls.give_up.Given as goal

abbrev pub invariant-loop : goal.invariant-loop
invariant-loop g l = Adds (RanOut (AdminCatatonic l.fn.fs)) l.fn.caller.receipts l.caller.receipts
