use Rattle.std.proofs.Common.{◌≡◌, ◌≤◌}
use Rattle.am_pipe.proofs.ends.TakeEnd.take.Given as goal

abbrev pub invariant-loop : goal.invariant-loop
invariant-loop g l = record {
  can : (goal.iterator-loop g).can_next l.iterator';
  finite : (goal.iterator-loop g).is_finite l.iterator';
  pipe : l.self.pipe ≡ l.fn.self.pipe;
  got : l.self.got ≡ l.fn.self.got;
  over : l.self.over ≡ l.fn.self.over;
  looks : l.fn.self.looks ≤ l.self.looks;
}
