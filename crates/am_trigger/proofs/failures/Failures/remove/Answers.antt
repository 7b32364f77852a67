use Rattle.std.proofs.Common.{ap, ◌∙◌}
use Rattle.am_names.specs.{eq-value}
use Rattle.am_names.proofs.SameTriggers.{key_is_same_trigger}
use Rattle.am_trigger.specs.FailureTable.{FailureTable}
use Rattle.am_trigger.specs.{FailureRows, failure_of, without_failure}
use Rattle.am_trigger.proofs.FailureLemmas.{remove_is, removed}
use Rattle.am_trigger.proofs.failures.Failures.remove.Goals as goal

pub returns-clause-rows : goal.returns-clause-rows
returns-clause-rows c =
    c.remove-gone.ensures.entries
    ∙ remove_is eq-value.it key_is_same_trigger c.args.trigger.now c.self.inside.rows.entries c.remove-gone.ensures.unique
    ∙ ap (λ (t : FailureTable). without_failure c.args.trigger.now t.rows) c.self.view_is

pub returns-clause-map : goal.returns-clause-map
returns-clause-map c g =
    let new = returns-clause-rows c in
    ap (λ (rows : FailureRows). failure_of rows g) new ∙ removed c.args.trigger.now g c.args.self.now.rows
