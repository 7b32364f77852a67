use Rattle.std.proofs.Common.{◌≡◌, length}
use Rattle.am_examples.proofs.tests.worlds.observe_all.Given as goal

abbrev pub invariant-loop-event : goal.invariant-loop-event
invariant-loop-event l = record { handed : l.world.handed ≡ length l.world.trace }
