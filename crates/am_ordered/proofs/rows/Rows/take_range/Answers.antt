use Rattle.std.proofs.Common.{◌≤◌, ◌++◌, ◌+◌, ◌∙◌, length, ap, rules}
use Rattle.std.specs.Prelude.{drop, take}
use Rattle.am_ordered.specs.RowTable.{RowTable}
use Rattle.am_ordered.proofs.TurnLemmas.{removed_behind}
use Rattle.am_ordered.proofs.rows.Rows.take_range.Goals as goal

pub returns-else-index-behind-clause-rows : goal.returns-else-index-behind-clause-rows
returns-else-index-behind-clause-rows g c =
    let within : c.self.inside.gone ≤ length c.self.inside.slots.items = search rules in
    ap (drop c.self.inside.gone) c.close.ensures.items
    ∙ removed_behind c.self.inside.gone c.args.index c.args.count c.self.inside.slots.items within
    ∙ ap (λ (t : RowTable g.row.T.Denot). take c.args.index t.rows ++ drop (c.args.index + c.args.count) t.rows) c.self.view_is
