use Rattle.std.proofs.Common.{length, sym, ap, ◌∙◌}
use Rattle.am_ordered.proofs.RowLemmas.{length_rows}
use Rattle.am_ordered.proofs.SlotLemmas.{all_stand}
use Rattle.am_ordered.specs.View.{row_at}
use Rattle.am_ordered.proofs.ordered.OrderedMap.len.Goals as goal

pub returns-clause-exact : goal.returns-clause-exact
returns-clause-exact g c =
    let inside = c.self.inside in
    c.len.ensures ∙ inside.order.ok.0
    ∙ sym (length_rows (row_at inside.slots.entries) inside.order.items (all_stand inside.slots.entries inside.order.items c.self.invariant.0))
    ∙ ap (λ t. length t.entries) c.self.view_is
