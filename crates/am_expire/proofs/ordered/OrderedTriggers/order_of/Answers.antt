use Rattle.std.proofs.Common.{sym, subst}
use Rattle.std.specs.Prelude.{filter}
use Rattle.am_trigger.specs.{TriggerTable}
use Rattle.am_expire.specs.{is_of, rows_at, IsOrder, rows_in}
use Rattle.am_expire.proofs.TouchLemmas.{order_within}
use Rattle.am_expire.proofs.ordered.OrderedTriggers.order_of.Goals as goal

pub returns-clause-order : goal.returns-clause-order
returns-clause-order c =
    let uses = c.self.inside.triggers.rows.uses in
    subst (λ (t : TriggerTable). IsOrder (filter (is_of c.args.fs) t.rows.uses) (rows_in c.of_fs.result)) c.self.view_is
    (subst (IsOrder (filter (is_of c.args.fs) uses)) (sym c.of_fs.ensures.rows)
    (order_within uses (rows_at uses c.self.inside.order.places.items) c.args.fs c.self.invariant.order))
