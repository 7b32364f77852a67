use Rattle.std.proofs.Common.{◌≡◌, ◌≤◌}
use Rattle.crossbeam_queue.specs.Passes.{IsPassOf}
use Rattle.am_pipe.specs.{known, read_by}
use Rattle.am_pipe.proofs.ends.put_in.Given as goal

abbrev pub invariant-loop : goal.invariant-loop
invariant-loop g l = record {
  can : (goal.iterator-loop g).can_next l.iterator';
  finite : (goal.iterator-loop g).is_finite l.iterator';
  queue : IsPassOf l.line.queue l.pass;
  pipe : l.pass.table_id ≡ l.fn.pass.table_id;
  view : known l.pass ≡ known l.fn.pass;
  seat : l.seat.table_id ≡ l.fn.seat.table_id;
  looks : (read_by l.fn.seat).looks ≤ (read_by l.seat).looks;
  given : (read_by l.seat).put ≡ (read_by l.fn.seat).put;
  note : l.note ≡ l.fn.note;
}
