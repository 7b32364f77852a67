use Rattle.std.proofs.Common.{drop}
use Rattle.std.specs.Prelude.{◌↔◌}
use Rattle.am_shared.specs.{EachRise}
use Rattle.am_shared.proofs.matching.each_rise.Given as goal

abbrev pub invariant-loop-caller : goal.invariant-loop-caller
invariant-loop-caller g l = EachRise l.callers ↔ EachRise (drop l.caller-index l.callers)
