use Rattle.std.proofs.Common.{◌≡◌, take}
use Rattle.am_state.proofs.kept_trigger.keep_triggers.Given as goal

abbrev pub invariant-loop-trigger : goal.invariant-loop-trigger
invariant-loop-trigger l = l.kept.items ≡ take l.trigger-index l.triggers
