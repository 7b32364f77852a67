use Rattle.std.proofs.Common.{◌≡◌, ◌≤◌, ◌++◌, length, take, drop}
use Rattle.am_trigger.specs.{without_failures}
use Rattle.am_trigger.proofs.failures.mend_fs.Given as goal

abbrev pub invariant-loop-left : goal.invariant-loop-left
invariant-loop-left l = record {
  within : l.left ≤ length l.fn.rows.entries;
  entries : l.rows.entries ≡ take l.left l.fn.rows.entries ++ without_failures l.fs (drop l.left l.fn.rows.entries);
  room : l.fn.rows.room ≤ l.rows.room;
}

abbrev pub decreases-loop-left : goal.decreases-loop-left
decreases-loop-left l = l.left
