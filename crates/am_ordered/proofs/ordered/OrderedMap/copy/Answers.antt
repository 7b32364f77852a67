use Rattle.std.proofs.Common.{◌≡◌, ◌≤◌, ◌-◌, length, sym, ap, subst, ◌∙◌, arith}
use Rattle.std.proofs.Math.Nat.{min-le_right}
use Rattle.std.specs.List.{IsDistinct}
use Rattle.std.specs.Map.{keys_of}
use Rattle.std.specs.VecDeque.{deque_len, deque_capacity}
use Rattle.indexmap.specs.IndexMap.{spare}
use Rattle.am_ordered.specs.View.{row_at}
use Rattle.am_ordered.proofs.RowLemmas.{length_rows}
use Rattle.am_ordered.proofs.SlotLemmas.{all_stand, distinct}
use Rattle.am_ordered.proofs.ordered.OrderedMap.copy.Goals as goal

pub loop-index-init : goal.loop-index-init
loop-index-init g c =
    let slots = c.self.inside.slots in
    let order = c.self.inside.order in
    let long : length c.args.self.now.entries ≡ deque_len order =
    sym (ap (λ t. length t.entries) c.self.view_is)
    ∙ length_rows (row_at slots.entries) order.items (all_stand slots.entries order.items c.self.invariant.0)
    ∙ sym order.ok.0 in
    let room : c.args.self.now.room ≤ deque_capacity order - deque_len order =
    subst (λ t. t.room ≤ deque_capacity order - deque_len order) c.self.view_is (min-le_right (spare slots) (deque_capacity order - deque_len order)) in
    (c.reserve.ensures.entries ∙ c.new-copy.ensures, omega arith, omega (arith, long, room, c.capacity.ensures, c.in_ok-reserve.ensures.ok))

pub copy_row-requires-clause-unique : goal.copy_row-requires-clause-unique
copy_row-requires-clause-unique g c =
    let inside = c.self.inside in
    subst (λ t. IsDistinct g.K.PartialEq.eq (keys_of t.entries)) c.self.view_is (distinct g.K.PartialEq.eq g.met.K.Eq.laws inside.slots.entries c.self.invariant.1 inside.order.items c.self.invariant.0)
