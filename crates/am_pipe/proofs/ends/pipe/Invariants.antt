use Rattle.std.proofs.Common.{◌≡◌, ◌≤◌, true, [], vec_len, All}
use Rattle.std.specs.Prelude.{vec_capacity}
use Rattle.std.specs.Arc.{arc_value}
use Rattle.crossbeam_queue.specs.Passes.{IsPassOf, ruled_capacity}
use Rattle.am_pipe.specs.{end_view, fresh_taker, fresh_view, known, read_by}
use Rattle.am_pipe.proofs.ends.pipe.Given as goal

abbrev pub invariant-loop-made : goal.invariant-loop-made
invariant-loop-made l = record {
  queue : IsPassOf (arc_value l.line).queue l.pass;
  seat : l.seat.table_id ≡ (arc_value l.line).meter.shared.table_id;
  counts : read_by l.seat ≡ fresh_view;
  room : ruled_capacity (arc_value l.line).queue ≡ l.capacity;
  view : known l.pass ≡ end_view true l._made 0 [] [];
  len : vec_len l.ends ≡ l._made;
  fits : l.takers ≤ vec_capacity l.ends;
  each : All (λ t. t ≡ fresh_taker l.pass.table_id) l.ends.items;
}
