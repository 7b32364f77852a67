use Rattle.std.proofs.Common.{ap, ◌∙◌}
use Rattle.am_names.specs.{eq-value}
use Rattle.am_names.proofs.SameTriggers.{key_is_same_trigger}
use Rattle.am_ordered.specs.{insert_entry}
use Rattle.am_trigger.specs.FailureTable.{FailureTable}
use Rattle.am_trigger.specs.{FailureRows, failure_of, with_failure}
use Rattle.am_trigger.proofs.FailureLemmas.{remove_is, insert_is, failure_after_put}
use Rattle.am_trigger.proofs.failures.Failures.put_reserved.Goals as goal

pub returns-clause-rows : goal.returns-clause-rows
returns-clause-rows c =
    let trigger = c.args.trigger.now in
    c.insert_reserved.ensures.entries
    ∙ ap (λ (rows : FailureRows). insert_entry eq-value.it rows trigger c.args.failure) (c.remove-before.ensures.entries ∙ remove_is eq-value.it key_is_same_trigger trigger c.self.inside.rows.entries c.remove-before.ensures.unique)
    ∙ insert_is eq-value.it key_is_same_trigger trigger c.args.failure c.self.inside.rows.entries
    ∙ ap (λ (t : FailureTable). with_failure trigger c.args.failure t.rows) c.self.view_is

pub returns-clause-map : goal.returns-clause-map
returns-clause-map c g =
    let new = returns-clause-rows c in
    ap (λ (rows : FailureRows). failure_of rows g) new ∙ failure_after_put c.args.trigger.now g c.args.failure c.args.self.now.rows
