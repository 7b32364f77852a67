use Rattle.std.proofs.Common.{◌≡◌, ◌+◌, ◌≤◌, [], vec_len, All}
use Rattle.std.specs.Prelude.{vec_capacity}
use Rattle.std.specs.Vec.Iter.{into_iter_items, into_iter_len}
use Rattle.am_shared.specs.Accounts.{newcomer}
use Rattle.am_shared.specs.Chronicle.{caller}
use Rattle.am_shared.specs.Passes.{CallsOn, view_of}
use Rattle.am_shared.proofs.caller.share.Given as goal

abbrev pub invariant-loop-pass : goal.invariant-loop-pass
invariant-loop-pass g l = record {
  can : (goal.iterator-loop-pass g).can_next l.pass-iterator;
  finite : (goal.iterator-loop-pass g).is_finite l.pass-iterator;
  count : vec_len l.made + into_iter_len l.pass-iterator ≡ l.callers;
  room : l.callers ≤ vec_capacity l.made;
  passes : All (λ pass. CallsOn g.L.Opened.logbook pass × (view_of pass ≡ caller [] []))
      (into_iter_items l.pass-iterator);
  each : All (λ made. made ≡ newcomer) l.made.items;
}
