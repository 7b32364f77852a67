use Rattle.std.proofs.Common.{◌≡◌, drop}
use Rattle.am_shared.specs.{EachRise, times_in}
use Rattle.am_shared.proofs.matching.is_away.Given as goal

abbrev pub invariant-loop-caller : goal.invariant-loop-caller
invariant-loop-caller g l = record {
  rise : EachRise (drop l.caller-index l.callers);
  same : times_in l.position l.callers ≡ times_in l.position (drop l.caller-index l.callers);
}
