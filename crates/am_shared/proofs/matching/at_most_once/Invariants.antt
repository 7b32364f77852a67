use Rattle.std.proofs.Common.{length}
use Rattle.std.specs.Prelude.{◌↔◌}
use Rattle.am_shared.specs.{EachRise, AtMostOnce}
use Rattle.am_shared.proofs.matching.at_most_once.Given as goal

abbrev pub invariant-loop-caller : goal.invariant-loop-caller
invariant-loop-caller g l = record {
  rise : EachRise l.rest;
  same : AtMostOnce l.callers ↔ AtMostOnce l.rest;
}

abbrev pub decreases-loop-caller : goal.decreases-loop-caller
decreases-loop-caller g l = length l.rest
