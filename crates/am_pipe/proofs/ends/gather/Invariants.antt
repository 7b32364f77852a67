use Rattle.std.proofs.Common.{◌≡◌, ◌++◌, true, length}
use Rattle.std.specs.Arc.{arc_value}
use Rattle.std.specs.Vec.Iter.{into_iter_items}
use Rattle.crossbeam_queue.specs.Passes.{IsPassOf}
use Rattle.am_pipe.specs.{taken_by, end_view, known}
use Rattle.am_pipe.proofs.ends.gather.Given as goal

abbrev pub invariant-loop-end : goal.invariant-loop-end
invariant-loop-end g l = record {
  can : (goal.iterator-loop-end g).can_next l.end-iterator;
  finite : (goal.iterator-loop-end g).is_finite l.end-iterator;
  queue : IsPassOf ((arc_value l.line).queue) l.pass;
  pipe : l.pass.table_id ≡ l.fn.put.pipe;
  view : known l.pass
      ≡ end_view true l.fn.put.takers (length l.yielded) l.fn.put.sent (taken_by l.yielded);
  rest : l.fn.takers.items ≡ l.yielded ++ into_iter_items l.end-iterator;
}
