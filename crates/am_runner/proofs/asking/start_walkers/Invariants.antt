use Rattle.std.proofs.Common.{◌≡◌, ◌+◌, ◌≤◌, [], All, vec_len}
use Rattle.std.specs.Prelude.{vec_capacity}
use Rattle.std.specs.Vec.Iter.{into_iter_items, into_iter_len}
use Rattle.am_runner.proofs.asking.start_walkers.Given as goal

abbrev pub invariant-loop-caller : goal.invariant-loop-caller
invariant-loop-caller g l = record {
  can : (goal.iterator-loop-caller g).can_next l.caller-iterator;
  finite : (goal.iterator-loop-caller g).is_finite l.caller-iterator;
  room : vec_len l.walking + into_iter_len l.caller-iterator ≤ vec_capacity l.walking;
  fresh : All (λ caller. caller.receipts ≡ []) (into_iter_items l.caller-iterator);
}
