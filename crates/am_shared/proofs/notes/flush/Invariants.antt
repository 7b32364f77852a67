use Rattle.std.proofs.Common.{◌≡◌, ◌≤◌, ◌+◌, ◌++◌}
use Rattle.std.specs.VecDeque.{deque_len}
use Rattle.am_shared.proofs.notes.flush.Given as goal

abbrev pub invariant-loop-i : goal.invariant-loop-i
invariant-loop-i g l = record {
  notes : l.put.sent ++ l.unsent.items ≡ l.initial.put.sent ++ l.initial.unsent.items;
  rest : deque_len l.unsent + l._i ≡ l.count;
  looks : l.initial.put.looks ≤ l.put.looks;
  pipe : l.put.pipe ≡ l.initial.put.pipe;
  takers : l.put.takers ≡ l.initial.put.takers;
  room : l.put.room ≡ l.initial.put.room;
}
