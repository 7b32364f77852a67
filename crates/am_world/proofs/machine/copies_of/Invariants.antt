use Rattle.std.proofs.Common.{◌≡◌, take}
use Rattle.am_world.proofs.machine.copies_of.Given as goal

abbrev pub invariant-loop-obs : goal.invariant-loop-obs
invariant-loop-obs l = l.copies.items ≡ take l.obs-index l.trace
