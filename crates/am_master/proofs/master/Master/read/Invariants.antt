use Rattle.std.proofs.Common.{◌≡◌, ◌≤◌, ◌+◌, length}
use Rattle.am_lines.specs.{statements_from}
use Rattle.am_lines.proofs.ReachedLemmas.{HasCome}
use Rattle.am_master.specs.{rows_read, master_read, StandWithin}
use Rattle.am_master.proofs.ReadLemmas.{AreReadAs}
use Rattle.am_master.proofs.master.Master.read.Given as goal

abbrev pub invariant-loop-behind : goal.invariant-loop-behind
invariant-loop-behind l = record {
  read : rows_read l.master (statements_from l.number l.rest) ≡ master_read l.fn.text;
  come : HasCome (AreReadAs l.master) l.fn.text l.number l.rest;
  stand : StandWithin (length l.fn.text + 1) l.master;
  counted : l.number + length l.rest ≤ 1 + length l.fn.text;
}

abbrev pub decreases-loop-behind : goal.decreases-loop-behind
decreases-loop-behind l = length l.rest
