use Rattle.std.proofs.Common.{sym, subst}
use Rattle.am_trigger.specs.{TriggerRows}
use Rattle.am_expire.specs.{IsListed}
use Rattle.am_expire.proofs.ordered.OrderedTriggers.touch_reserved.Goals as goal

pub invariant_of-self : goal.invariant_of-self
invariant_of-self c =
    subst (λ (t : TriggerRows). IsListed t.uses c.touch.new.self.places.items) (sym c.touch_reserved.ensures.rows) c.touch.ensures.listed
