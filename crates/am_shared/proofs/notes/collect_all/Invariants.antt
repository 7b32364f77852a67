use Rattle.std.proofs.Common.{◌≡◌, ◌+◌, ◌≤◌, ◌++◌, length, drop}
use Rattle.std.specs.VecDeque.{deque_len, deque_capacity}
use Rattle.am_shared.specs.{notes_of}
use Rattle.am_shared.proofs.notes.collect_all.Given as goal

abbrev pub invariant-loop-obs : goal.invariant-loop-obs
invariant-loop-obs l = record {
  notes : l.unsent.items ++ notes_of (drop l.obs-index l.seen)
      ≡ l.initial.unsent.items ++ notes_of l.seen;
  room : deque_len l.unsent + length (notes_of (drop l.obs-index l.seen))
      ≤ deque_capacity l.unsent;
}
