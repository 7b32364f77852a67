use Rattle.std.proofs.Common.{◌≡◌, [], take, drop}
use Rattle.am_laws.specs.{Remembers}
use Rattle.am_laws.specs.Breaches.{breach_from}
use Rattle.am_laws.proofs.breach_in.Given as goal

abbrev pub invariant-loop-i : goal.invariant-loop-i
invariant-loop-i l = (breach_from (take l.i l.trace) (drop l.i l.trace) ≡ breach_from [] l.fn.trace) × Remembers l.past.settled l.past.greatest (take l.i l.trace)
