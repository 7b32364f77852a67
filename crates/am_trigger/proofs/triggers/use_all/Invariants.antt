use Rattle.std.proofs.Common.{◌≡◌, ◌≤◌, ◌+◌, drop}
use Rattle.indexmap.specs.IndexMap.{spare}
use Rattle.am_trigger.specs.{all_used_in}
use Rattle.am_trigger.proofs.triggers.use_all.Given as goal

abbrev pub invariant-loop-trigger : goal.invariant-loop-trigger
invariant-loop-trigger l = record {
  entries : all_used_in (drop l.trigger-index l.triggers) l.moment l.uses.entries ≡ all_used_in l.triggers l.moment l.fn.uses.entries;
  room : spare l.fn.uses ≤ spare l.uses + l.trigger-index;
}
