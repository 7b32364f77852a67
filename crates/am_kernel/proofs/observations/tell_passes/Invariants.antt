use Rattle.std.proofs.Common.{◌≡◌, ◌+◌, ◌++◌, length, vec_len}
use Rattle.std.specs.Prelude.{vec_capacity}
use Rattle.std.specs.Vec.Iter.{into_iter_items}
use Rattle.am_kernel.specs.{passes}
use Rattle.am_kernel.proofs.observations.tell_passes.Given as goal

abbrev pub invariant-loop-trigger : goal.invariant-loop-trigger
invariant-loop-trigger l = record {
  can : goal.iterator-loop-trigger.can_next l.trigger-iterator;
  finite : goal.iterator-loop-trigger.is_finite l.trigger-iterator;
  seen : l.seen.items ≡ l.fn.seen.items ++ passes l.walker l.yielded;
  len : vec_len l.seen ≡ vec_len l.fn.seen + length l.yielded;
  capacity : vec_capacity l.seen ≡ vec_capacity l.fn.seen;
  rest : l.fn.passed.items ≡ l.yielded ++ into_iter_items l.trigger-iterator;
}
