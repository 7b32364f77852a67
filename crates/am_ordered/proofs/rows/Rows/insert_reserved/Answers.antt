use Rattle.std.proofs.Common.{◌≡◌, ◌≤◌, ◌+◌, rules, true, cond, length, ap, ◌∙◌}
use Rattle.std.specs.Prelude.{drop, is_ok}
use Rattle.std.specs.List.{insert}
use Rattle.am_ordered.specs.RowTable.{RowTable}
use Rattle.am_ordered.proofs.TurnLemmas.{inserted_behind}
use Rattle.am_ordered.proofs.rows.Rows.insert_reserved.Goals as goal

pub returns-clause-rows : goal.returns-clause-rows
returns-clause-rows g c =
    let slots = c.self.inside.slots in
    let gone = c.self.inside.gone in
    let at = gone + c.args.index in
    let within : gone ≤ length slots.items = search rules in
    let done : is_ok c.insert-put.result ≡ true = c.insert-put.ensures.succeeds (search rules) in
    ap (drop gone) (c.insert-put.ensures.items ∙ ap (λ b. cond b (insert slots.items at c.args.row) slots.items) done) ∙
    inserted_behind gone c.args.index slots.items c.args.row within ∙
    ap (λ (t : RowTable g.row.T.Denot). insert t.rows c.args.index c.args.row) c.self.view_is
