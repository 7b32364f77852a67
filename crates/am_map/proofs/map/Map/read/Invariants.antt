use Rattle.std.proofs.Common.{◌≡◌, ◌≤◌, ◌+◌, [], length}
use Rattle.am_lines.specs.{statements, statements_from}
use Rattle.am_lines.proofs.ReachedLemmas.{HasCome}
use Rattle.am_map.specs.{rows_read, AreRows}
use Rattle.am_map.proofs.ReadLemmas.{behind}
use Rattle.am_map.proofs.map.Map.read.Given as goal

abbrev pub invariant-loop-behind : goal.invariant-loop-behind
invariant-loop-behind l = record {
  read : behind l.map (rows_read l.fn.kind (statements_from l.number l.rest)) ≡ behind [] (rows_read l.fn.kind (statements l.fn.text));
  come : HasCome (AreRows l.fn.kind) l.fn.text l.number l.rest;
  counted : l.number + length l.rest ≤ 1 + length l.fn.text;
}

abbrev pub decreases-loop-behind : goal.decreases-loop-behind
decreases-loop-behind l = length l.rest
