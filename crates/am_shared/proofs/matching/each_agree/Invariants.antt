use Rattle.std.proofs.Common.{drop}
use Rattle.std.specs.Prelude.{◌↔◌}
use Rattle.am_shared.specs.{EachAgreeLeft}
use Rattle.am_shared.proofs.matching.each_agree.Given as goal

abbrev pub invariant-loop-caller : goal.invariant-loop-caller
invariant-loop-caller g l = EachAgreeLeft l.taken l.left l.callers ↔ EachAgreeLeft l.taken l.left (drop l.caller-index l.callers)
