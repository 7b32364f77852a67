use Rattle.std.proofs.Common.{ap, ◌∙◌}
use Rattle.am_trigger.specs.FailureTable.{FailureTable}
use Rattle.am_trigger.specs.{FailureRows, failure_of, without_failures}
use Rattle.am_trigger.proofs.FailureLemmas.{mended}
use Rattle.am_trigger.proofs.failures.Failures.remove_fs.Goals as goal

pub returns-clause-rows : goal.returns-clause-rows
returns-clause-rows c =
    c.mend_fs.ensures.entries ∙ ap (λ (t : FailureTable). without_failures c.args.fs t.rows) c.self.view_is

pub returns-clause-map : goal.returns-clause-map
returns-clause-map c g =
    let new = returns-clause-rows c in
    ap (λ (rows : FailureRows). failure_of rows g) new ∙ mended c.args.fs g c.args.self.now.rows
