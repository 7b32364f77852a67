use Rattle.std.proofs.Common.{◌≡◌, ◌++◌, take}
use Rattle.am_kernel.specs.{releases}
use Rattle.am_kernel.proofs.observations.tell_releases.Given as goal

abbrev pub invariant-loop-walker : goal.invariant-loop-walker
invariant-loop-walker l =
    l.shown.items ≡ l.fn.shown.items ++ releases l.token l.status (take l.walker-index l.walkers)
