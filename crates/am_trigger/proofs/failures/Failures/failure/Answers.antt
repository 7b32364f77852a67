use Rattle.std.proofs.Common.{ap, ◌∙◌}
use Rattle.am_names.specs.{eq-value}
use Rattle.am_names.proofs.SameTriggers.{key_is_same_trigger}
use Rattle.am_trigger.specs.FailureTable.{FailureTable}
use Rattle.am_trigger.specs.{failure_of}
use Rattle.am_trigger.proofs.FailureLemmas.{failure_is}
use Rattle.am_trigger.proofs.failures.Failures.failure.Goals as goal

pub returns : goal.returns
returns c =
    c.copied.ensures ∙ c.get.ensures
    ∙ failure_is eq-value.it key_is_same_trigger c.args.trigger.now c.self.inside.rows.entries
    ∙ ap (λ (t : FailureTable). failure_of t.rows c.args.trigger.now) c.self.view_is
