use Rattle.std.proofs.Common.{◌≡◌, ◌≤◌, ◌+◌, drop}
use Rattle.am_trigger.specs.{all_used}
use Rattle.am_expire.proofs.ordered.OrderedTriggers.touch_all_reserved.Given as goal

abbrev pub invariant-loop-trigger : goal.invariant-loop-trigger
invariant-loop-trigger l = record {
  rows : all_used (drop l.trigger-index l.triggers) l.moment l.self.rows ≡ all_used l.triggers l.moment l.fn.self.rows;
  room : l.fn.self.use_room ≤ l.self.use_room + l.trigger-index;
  kept : l.self.autofs_room ≡ l.fn.self.autofs_room;
}
