use Rattle.std.proofs.Common.{◌≡◌, ◌+◌, ◌++◌, length, vec_len}
use Rattle.std.specs.Prelude.{vec_capacity}
use Rattle.std.specs.Vec.Iter.{into_iter_items}
use Rattle.am_world.proofs.deliveries.tell.Given as goal

abbrev pub invariant-loop-obs : goal.invariant-loop-obs
invariant-loop-obs l = record {
  can : goal.iterator-loop-obs.can_next l.obs-iterator;
  finite : goal.iterator-loop-obs.is_finite l.obs-iterator;
  told : l.trace.items ≡ l.fn.trace.items ++ l.yielded;
  len : vec_len l.trace ≡ vec_len l.fn.trace + length l.yielded;
  capacity : vec_capacity l.trace ≡ vec_capacity l.fn.trace;
  rest : l.fn.seen.items ≡ l.yielded ++ into_iter_items l.obs-iterator;
}
