use Rattle.std.proofs.Common.{ap, ◌∙◌}
use Rattle.std.specs.List.{slice_set}
use Rattle.std.proofs.lemmas.List.{drop-set-add}
use Rattle.am_ordered.specs.RowTable.{RowTable}
use Rattle.am_ordered.proofs.rows.Rows.set.Goals as goal

pub returns-clause-rows : goal.returns-clause-rows
returns-clause-rows g c =
    drop-set-add c.self.inside.gone c.self.inside.slots.items c.args.index c.args.row ∙
    ap (λ (t : RowTable g.row.T.Denot). slice_set t.rows c.args.index c.args.row) c.self.view_is
