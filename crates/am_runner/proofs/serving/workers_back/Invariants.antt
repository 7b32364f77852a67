use Rattle.std.proofs.Common.{◌+◌, ◌≤◌, vec_len}
use Rattle.std.specs.Prelude.{vec_capacity}
use Rattle.std.specs.Vec.Iter.{into_iter_len}
use Rattle.am_runner.specs.{AreWorkers}
use Rattle.am_runner.proofs.serving.workers_back.Given as goal

abbrev pub invariant-loop-thread : goal.invariant-loop-thread
invariant-loop-thread g l = record {
  can : (goal.iterator-loop-thread g).can_next l.thread-iterator;
  finite : (goal.iterator-loop-thread g).is_finite l.thread-iterator;
  callers : vec_len l.callers + into_iter_len l.thread-iterator ≤ vec_capacity l.callers;
  takers : vec_len l.takers + into_iter_len l.thread-iterator ≤ vec_capacity l.takers;
  backends : vec_len l.backends + into_iter_len l.thread-iterator ≤ vec_capacity l.backends;
  are : AreWorkers g.L.Opened.pipe l.takers.items l.callers.items;
}
