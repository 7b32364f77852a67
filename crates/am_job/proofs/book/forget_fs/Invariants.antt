use Rattle.std.proofs.Common.{◌≡◌, ◌≤◌, ◌==◌, ◌++◌, not, filter, length, take, drop}
use Rattle.am_job.proofs.book.forget_fs.Given as goal

abbrev pub invariant-loop-left : goal.invariant-loop-left
invariant-loop-left l = record {
  within : l.left ≤ length l.fn.records.entries;
  entries : l.records.entries ≡ take l.left l.fn.records.entries ++ filter (λ row. not (row.0.fs == l.fs)) (drop l.left l.fn.records.entries);
  room : l.fn.records.room ≤ l.records.room;
}

abbrev pub decreases-loop-left : goal.decreases-loop-left
decreases-loop-left l = l.left
