use Rattle.am_runner.specs.{AreWalkers}
use Rattle.am_runner.proofs.asking.walkers_back.Given as goal

abbrev pub invariant-loop-thread : goal.invariant-loop-thread
invariant-loop-thread g l = record {
  can : (goal.iterator-loop-thread g).can_next l.thread-iterator;
  finite : (goal.iterator-loop-thread g).is_finite l.thread-iterator;
  are : AreWalkers g.L.Planned.plan 1 l.back.items;
}
