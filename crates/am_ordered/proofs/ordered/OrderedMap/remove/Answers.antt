use Rattle.std.proofs.Common.{◌≡◌, remove, slice_get, Some, sym, ap, subst, ◌∙◌}
use Rattle.std.proofs.lemmas.Option.{none-some}
use Rattle.std.specs.Map.{lookup, keys_of}
use Rattle.std.specs.List.{IsDistinct}
use Rattle.std.specs.Option.{option_map}
use Rattle.indexmap.specs.IndexMap.{shift_remove_entry}
use Rattle.am_ordered.specs.View.{row_of}
use Rattle.am_ordered.proofs.SlotLemmas.{distinct, lookup_is, none_removed, key_removed, row_listed, key_passes}
use Rattle.am_ordered.proofs.ordered.OrderedMap.remove.Goals as goal

pub returns-in_err-place-clause-value : goal.returns-in_err-place-clause-value
returns-in_err-place-clause-value g c =
    let eq = g.K.PartialEq.eq in
    let laws = g.met.K.Eq.laws in
    let inside = c.self.inside in
    let key = c.args.key.now in
    let none = sym (ap (λ t. lookup (eq key) t.entries) c.self.view_is) ∙ lookup_is eq laws inside.slots.entries c.self.invariant.1 inside.order.items c.self.invariant.0 key ∙ ap (option_map (λ s. s.value)) (sym c.in_err-place.ensures.value) in
    c.from_residual.ensures ∙ sym none

pub returns-in_err-place-clause-entries : goal.returns-in_err-place-clause-entries
returns-in_err-place-clause-entries g c =
    let eq = g.K.PartialEq.eq in
    let laws = g.met.K.Eq.laws in
    let inside = c.self.inside in
    let key = c.args.key.now in
    let none = sym (ap (λ t. lookup (eq key) t.entries) c.self.view_is) ∙ lookup_is eq laws inside.slots.entries c.self.invariant.1 inside.order.items c.self.invariant.0 key ∙ ap (option_map (λ s. s.value)) (sym c.in_err-place.ensures.value) in
    sym (none_removed (eq key) c.args.self.now.entries none)

pub returns-in_err-place-clause-unique : goal.returns-in_err-place-clause-unique
returns-in_err-place-clause-unique g c =
    subst (λ t. IsDistinct g.K.PartialEq.eq (keys_of t.entries)) c.self.view_is (distinct g.K.PartialEq.eq g.met.K.Eq.laws c.self.inside.slots.entries c.self.invariant.1 c.self.inside.order.items c.self.invariant.0)

pub returns-in_err-value-clause-value : goal.returns-in_err-value-clause-value
returns-in_err-value-clause-value g c =
    let eq = g.K.PartialEq.eq in
    let laws = g.met.K.Eq.laws in
    let inside = c.self.inside in
    let key = c.args.key.now in
    let row = subst (λ t. slice_get t.entries c.in_ok-index.index ≡ Some (row_of (c.in_ok-place.field-0-1.now, c.in_ok-place.slot.now))) c.self.view_is (row_listed eq laws inside.slots.entries c.self.invariant.1 inside.order.items c.self.invariant.0 c.in_ok-index.index c.in_ok-place.place c.in_ok-index.ensures ∙ ap (option_map row_of) c.in_ok-place.ensures.entry) in
    absurd (none-some (row_of (c.in_ok-place.field-0-1.now, c.in_ok-place.slot.now)) (c.in_err-value.ensures.entry ∙ row))

pub returns-in_err-value-clause-entries : goal.returns-in_err-value-clause-entries
returns-in_err-value-clause-entries g c =
    let eq = g.K.PartialEq.eq in
    let laws = g.met.K.Eq.laws in
    let inside = c.self.inside in
    let key = c.args.key.now in
    let row = subst (λ t. slice_get t.entries c.in_ok-index.index ≡ Some (row_of (c.in_ok-place.field-0-1.now, c.in_ok-place.slot.now))) c.self.view_is (row_listed eq laws inside.slots.entries c.self.invariant.1 inside.order.items c.self.invariant.0 c.in_ok-index.index c.in_ok-place.place c.in_ok-index.ensures ∙ ap (option_map row_of) c.in_ok-place.ensures.entry) in
    absurd (none-some (row_of (c.in_ok-place.field-0-1.now, c.in_ok-place.slot.now)) (c.in_err-value.ensures.entry ∙ row))

pub returns-clause-value : goal.returns-clause-value
returns-clause-value g c =
    let eq = g.K.PartialEq.eq in
    let laws = g.met.K.Eq.laws in
    let inside = c.self.inside in
    let key = c.args.key.now in
    let row = subst (λ t. slice_get t.entries c.in_ok-index.index ≡ Some (row_of (c.in_ok-place.field-0-1.now, c.in_ok-place.slot.now))) c.self.view_is (row_listed eq laws inside.slots.entries c.self.invariant.1 inside.order.items c.self.invariant.0 c.in_ok-index.index c.in_ok-place.place c.in_ok-index.ensures ∙ ap (option_map row_of) c.in_ok-place.ensures.entry) in
    ap (option_map (λ e. e.1)) (c.in_ok-value.ensures.entry ∙ row)
    ∙ ap (option_map (λ s. s.value)) c.in_ok-place.ensures.value
    ∙ sym (lookup_is eq laws inside.slots.entries c.self.invariant.1 inside.order.items c.self.invariant.0 key)
    ∙ ap (λ t. lookup (eq key) t.entries) c.self.view_is

pub returns-clause-entries : goal.returns-clause-entries
returns-clause-entries g c =
    let eq = g.K.PartialEq.eq in
    let laws = g.met.K.Eq.laws in
    let inside = c.self.inside in
    let key = c.args.key.now in
    let same = key_passes (eq key) inside.slots.entries c.in_ok-place.field-0-1.now (sym c.in_ok-place.ensures.key) in
    c.remove_index.ensures.entries
    ∙ subst (λ t. remove t.entries c.in_ok-index.index ≡ shift_remove_entry (eq key) t.entries) c.self.view_is (key_removed eq laws inside.slots.entries c.self.invariant.1 inside.order.items c.self.invariant.0 key c.in_ok-index.index c.in_ok-place.place (c.in_ok-place.field-0-1.now, c.in_ok-place.slot.now) c.in_ok-index.ensures c.in_ok-place.ensures.entry same)
