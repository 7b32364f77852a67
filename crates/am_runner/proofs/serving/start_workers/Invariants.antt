use Rattle.std.proofs.Common.{◌≡◌, ◌+◌, ◌≤◌, [], All, vec_len}
use Rattle.std.specs.Prelude.{vec_capacity}
use Rattle.std.specs.Vec.Iter.{into_iter_items, into_iter_len}
use Rattle.am_runner.proofs.serving.start_workers.Given as goal

abbrev pub invariant-loop-taker : goal.invariant-loop-taker
invariant-loop-taker g l = record {
  can : (goal.iterator-loop-taker g).can_next l.taker-iterator;
  finite : (goal.iterator-loop-taker g).is_finite l.taker-iterator;
  room : vec_len l.working + into_iter_len l.taker-iterator ≤ vec_capacity l.working;
  fresh : All (λ caller. caller.receipts ≡ []) l.callers.items;
  untaken : All (λ taker. (taker.pipe ≡ g.L.Opened.pipe) × (taker.got ≡ []))
      (into_iter_items l.taker-iterator);
}
