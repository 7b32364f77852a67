use Rattle.std.proofs.Common.{◌≡◌, ◌≤◌, ◌+◌, drop}
use Rattle.am_daemon.specs.{all_mounted}
use Rattle.am_daemon.proofs.attachments.write_standing.Given as goal

abbrev pub invariant-loop-trigger : goal.invariant-loop-trigger
invariant-loop-trigger l = record {
  rows : all_mounted (drop l.trigger-index l.standing) l.book.rows ≡ all_mounted l.standing l.fn.book.rows;
  room : l.fn.book.room ≤ l.book.room + l.trigger-index;
}
