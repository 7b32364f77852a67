use Rattle.std.proofs.Common.{◌≡◌, ◌<◌, ◌≤◌, ◌⊎◌, inl, inr, slice_get, option_map, None, refl, sym, ap, ◌∙◌, arith}
use Rattle.std.proofs.lemmas.Bool.{cases_lt, false≢true}
use Rattle.std.proofs.lemmas.Option.{slice_get_read}
use Rattle.std.specs.Map.Iter.{deref_pair}
use Rattle.std.specs.VecDeque.{deque_len}
use Rattle.am_ordered.specs.View.{row_of, rows_of}
use Rattle.am_ordered.proofs.SlotLemmas.{has_slot, row_listed, row_past}
use Rattle.am_ordered.proofs.ordered.OrderedMap.get_index.Goals as goal

pub returns-in_err-place : goal.returns-in_err-place
returns-in_err-place g c =
    let inside = c.self.inside in
    ap (option_map deref_pair) c.from_residual.ensures
    ∙ sym (by (cases_lt c.args.index (deque_len inside.order)))
    ∙ ap (λ t. slice_get t.entries c.args.index) c.self.view_is
  where
    by : (c.args.index < deque_len c.self.inside.order) ⊎ (deque_len c.self.inside.order ≤ c.args.index) → slice_get (rows_of c.self.inside.slots.entries c.self.inside.order.items) c.args.index ≡ None
    by (inl l) = absurd (false≢true (c.in_err-place.ensures.variant.1 l))
    by (inr l) = row_past g.K.PartialEq.eq g.met.K.Eq.laws c.self.inside.slots.entries c.self.invariant.1 c.self.inside.order.items c.self.invariant.0 c.args.index (omega (arith, c.self.inside.order.ok.0))

pub returns-in_err-key : goal.returns-in_err-key
returns-in_err-key g c =
    let inside = c.self.inside in
    let listed = slice_get_read inside.order.items (deque_len inside.order) c.args.index c.in_ok-place.place.now inside.order.ok.0 (c.in_ok-place.ensures.variant.0 refl) c.in_ok-place.ensures.lookup in
    absurd (has_slot g.K.PartialEq.eq g.met.K.Eq.laws inside.slots.entries c.self.invariant.1 inside.order.items c.self.invariant.0 c.args.index c.in_ok-place.place.now listed (sym c.in_err-key.ensures.entry))

pub returns : goal.returns
returns g c =
    let inside = c.self.inside in
    let listed = slice_get_read inside.order.items (deque_len inside.order) c.args.index c.in_ok-place.place.now inside.order.ok.0 (c.in_ok-place.ensures.variant.0 refl) c.in_ok-place.ensures.lookup in
    ap (option_map row_of) (c.in_ok-key.ensures.entry)
    ∙ sym (row_listed g.K.PartialEq.eq g.met.K.Eq.laws inside.slots.entries c.self.invariant.1 inside.order.items c.self.invariant.0 c.args.index c.in_ok-place.place.now listed)
    ∙ ap (λ t. slice_get t.entries c.args.index) c.self.view_is
