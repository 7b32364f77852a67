use Rattle.std.proofs.Common.{◌≡◌, ◌≤◌, [], All, vec_len}
use Rattle.std.specs.Prelude.{vec_capacity}
use Rattle.am_shared.specs.Chronicle.{caller, keeper}
use Rattle.am_shared.specs.Passes.{CallsOn, KeepsHistory, view_of}
use Rattle.am_shared.proofs.caller.admit_all.Given as goal

abbrev pub invariant-loop-made : goal.invariant-loop-made
invariant-loop-made l = record {
  count : vec_len l.made ≡ l._made;
  room : l.callers ≤ vec_capacity l.made;
  keeper : KeepsHistory l.history.shared.table_id l.keeping × (view_of l.keeping ≡ keeper l._made []);
  each : All (λ pass. CallsOn l.history.shared.table_id pass × (view_of pass ≡ caller [] [])) l.made.items;
}
