use Rattle.std.proofs.Common.{◌≡◌, take}
use Rattle.am_wait.specs.{walkers_at}
use Rattle.am_wait.proofs.seats.walkers_at.Given as goal

abbrev pub invariant-loop-key : goal.invariant-loop-key
invariant-loop-key l = l.walkers.items ≡ walkers_at l.slab (take l.key-index l.keys)
