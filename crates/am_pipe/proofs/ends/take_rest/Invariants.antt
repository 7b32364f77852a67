use Rattle.std.proofs.Common.{◌≡◌, ◌≤◌, ◌+◌, ◌++◌, length, vec_len}
use Rattle.std.specs.Prelude.{vec_capacity}
use Rattle.crossbeam_queue.specs.Passes.{IsPassOf}
use Rattle.am_pipe.specs.{end_view, known}
use Rattle.am_pipe.proofs.ends.take_rest.Given as goal

abbrev pub invariant-loop-i : goal.invariant-loop-i
invariant-loop-i g l =
    let v = known l.fn.pass in record {
      queue : IsPassOf l.queue l.pass;
      view : known l.pass
          ≡ end_view v.puts v.made v.parts v.sent (v.got ++ l.left.items);
      len : vec_len l.left ≡ l._i;
      fits : l.count ≤ vec_capacity l.left;
      left : length v.got + l.count ≡ length v.sent;
    }
