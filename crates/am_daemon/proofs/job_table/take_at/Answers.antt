use Rattle.std.proofs.Common.{ap, ◌∙◌, arith}
use Rattle.std.specs.Prelude.{drop}
use Rattle.am_daemon.proofs.JobTableLemmas.{first_behind, removed_behind}
use Rattle.am_daemon.proofs.job_table.take_at.Goals as goal

pub returns-then-at-eq0-clause-rows : goal.returns-then-at-eq0-clause-rows
returns-then-at-eq0-clause-rows c =
    c.pass.ensures.rows ∙ first_behind c.args.over.now c.args.at c.args.rows.now.items (grind (arith, c.if-at-eq0.true))

pub returns-else-at-eq0-clause-rows : goal.returns-else-at-eq0-clause-rows
returns-else-at-eq0-clause-rows c =
    ap (drop c.args.over.now) c.remove-row.ensures.items ∙ removed_behind c.args.over.now c.args.at c.args.rows.now.items
