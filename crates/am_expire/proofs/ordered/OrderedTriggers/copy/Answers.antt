use Rattle.std.proofs.Common.{ℕ, List, sym, subst}
use Rattle.am_trigger.specs.{TriggerRows}
use Rattle.am_expire.specs.Order.{IsListed}
use Rattle.am_expire.proofs.ordered.OrderedTriggers.copy.Goals as goal

pub invariant_of-result : goal.invariant_of-result
invariant_of-result c =
    subst (λ (rows : TriggerRows). IsListed rows.uses c.in_ok-copy-2.field-0.places.items) (sym c.in_ok-copy.ensures.rows)
    (subst (λ (places : List ℕ). IsListed c.self.inside.triggers.rows.uses places) (sym c.in_ok-copy-2.ensures.places) c.self.invariant)
