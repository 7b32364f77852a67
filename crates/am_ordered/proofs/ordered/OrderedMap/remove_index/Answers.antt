use Rattle.std.proofs.Common.{◌≡◌, ◌<◌, ◌≤◌, ◌⊎◌, inl, inr, ℕ, suc, List, length, remove, map, slice_get, None, refl, sym, ap, subst, ◌∙◌, arith}
use Rattle.std.proofs.lemmas.Bool.{cases_lt, false≢true}
use Rattle.std.proofs.lemmas.Option.{slice_get_read, slice_get_within}
use Rattle.std.specs.Map.{keys_of}
use Rattle.std.specs.List.{IsDistinct}
use Rattle.std.specs.Option.{option_map}
use Rattle.std.specs.VecDeque.{deque_len}
use Rattle.indexmap.specs.IndexMap.{index_map_len}
use Rattle.am_ordered.specs.{times, renamed, IsOrderOf}
use Rattle.am_ordered.specs.View.{rows_of, row_of}
use Rattle.am_ordered.proofs.OrderLemmas.{one_less, few_left}
use Rattle.am_ordered.proofs.SlotLemmas.{distinct, has_slot, row_listed, row_past, none_past, removed}
use Rattle.am_ordered.proofs.ordered.OrderedMap.remove_index.Goals as goal

pub returns-in_err-place-clause-entry : goal.returns-in_err-place-clause-entry
returns-in_err-place-clause-entry g c =
    c.from_residual.ensures ∙ sym (by (cases_lt c.args.index (deque_len c.self.inside.order))) ∙ ap (λ t. slice_get t.entries c.args.index) c.self.view_is
  where
    by : (c.args.index < deque_len c.self.inside.order) ⊎ (deque_len c.self.inside.order ≤ c.args.index) → slice_get (rows_of c.self.inside.slots.entries c.self.inside.order.items) c.args.index ≡ None
    by (inl l) = absurd (false≢true (c.in_err-place.ensures.variant.1 l))
    by (inr l) = row_past g.K.PartialEq.eq g.met.K.Eq.laws c.self.inside.slots.entries c.self.invariant.1 c.self.inside.order.items c.self.invariant.0 c.args.index (omega (arith, c.self.inside.order.ok.0))

pub returns-in_err-place-clause-entries : goal.returns-in_err-place-clause-entries
returns-in_err-place-clause-entries g c =
    ap (λ q. rows_of c.self.inside.slots.entries q.items) c.in_err-place.ensures.unchanged
    ∙ sym (by (cases_lt c.args.index (deque_len c.self.inside.order)))
    ∙ ap (λ t. remove t.entries c.args.index) c.self.view_is
  where
    by : (c.args.index < deque_len c.self.inside.order) ⊎ (deque_len c.self.inside.order ≤ c.args.index) → remove (rows_of c.self.inside.slots.entries c.self.inside.order.items) c.args.index ≡ rows_of c.self.inside.slots.entries c.self.inside.order.items
    by (inl l) = absurd (false≢true (c.in_err-place.ensures.variant.1 l))
    by (inr l) = none_past g.K.PartialEq.eq g.met.K.Eq.laws c.self.inside.slots.entries c.self.invariant.1 c.self.inside.order.items c.self.invariant.0 c.args.index (omega (arith, c.self.inside.order.ok.0))

pub returns-in_err-place-clause-unique : goal.returns-in_err-place-clause-unique
returns-in_err-place-clause-unique g c =
    subst (λ t. IsDistinct g.K.PartialEq.eq (keys_of t.entries)) c.self.view_is (distinct g.K.PartialEq.eq g.met.K.Eq.laws c.self.inside.slots.entries c.self.invariant.1 c.self.inside.order.items c.self.invariant.0)

pub invariant_of-self-in_err-key : goal.invariant_of-self-in_err-key
invariant_of-self-in_err-key g c =
    let inside = c.self.inside in
    let listed = slice_get_read inside.order.items (deque_len inside.order) c.args.index c.in_ok-place.place inside.order.ok.0 (c.in_ok-place.ensures.variant.0 refl) c.in_ok-place.ensures.value in
    absurd (has_slot g.K.PartialEq.eq g.met.K.Eq.laws inside.slots.entries c.self.invariant.1 inside.order.items c.self.invariant.0 c.args.index c.in_ok-place.place listed (sym c.in_err-key.ensures.entry))

pub returns-in_err-key-clause-entry : goal.returns-in_err-key-clause-entry
returns-in_err-key-clause-entry g c =
    let inside = c.self.inside in
    let listed = slice_get_read inside.order.items (deque_len inside.order) c.args.index c.in_ok-place.place inside.order.ok.0 (c.in_ok-place.ensures.variant.0 refl) c.in_ok-place.ensures.value in
    absurd (has_slot g.K.PartialEq.eq g.met.K.Eq.laws inside.slots.entries c.self.invariant.1 inside.order.items c.self.invariant.0 c.args.index c.in_ok-place.place listed (sym c.in_err-key.ensures.entry))

pub returns-in_err-key-clause-entries : goal.returns-in_err-key-clause-entries
returns-in_err-key-clause-entries g c =
    let inside = c.self.inside in
    let listed = slice_get_read inside.order.items (deque_len inside.order) c.args.index c.in_ok-place.place inside.order.ok.0 (c.in_ok-place.ensures.variant.0 refl) c.in_ok-place.ensures.value in
    absurd (has_slot g.K.PartialEq.eq g.met.K.Eq.laws inside.slots.entries c.self.invariant.1 inside.order.items c.self.invariant.0 c.args.index c.in_ok-place.place listed (sym c.in_err-key.ensures.entry))

pub returns-in_err-key-clause-unique : goal.returns-in_err-key-clause-unique
returns-in_err-key-clause-unique g c =
    subst (λ t. IsDistinct g.K.PartialEq.eq (keys_of t.entries)) c.self.view_is (distinct g.K.PartialEq.eq g.met.K.Eq.laws c.self.inside.slots.entries c.self.invariant.1 c.self.inside.order.items c.self.invariant.0)

pub rename_last-requires-clause-within : goal.rename_last-requires-clause-within
rename_last-requires-clause-within g c =
    let inside = c.self.inside in
    let within = slice_get_within inside.slots.entries c.in_ok-place.place (c.in_ok-key.key, c.in_ok-key.slot) (sym c.in_ok-key.ensures.entry) in
    omega (arith, c.in_ok-key.ensures.len)

pub rename_last-requires-clause-once : goal.rename_last-requires-clause-once
rename_last-requires-clause-once g c =
    let inside = c.self.inside in
    let listed = slice_get_read inside.order.items (deque_len inside.order) c.args.index c.in_ok-place.place inside.order.ok.0 (c.in_ok-place.ensures.variant.0 refl) c.in_ok-place.ensures.value in
    let n = index_map_len c.swap_remove_index.new.self in
    subst (λ (xs : List ℕ). times n xs ≤ 1) (sym c.in_ok-place.ensures.items) (few_left (length inside.slots.entries) inside.order.items c.args.index c.in_ok-place.place n c.self.invariant.0 listed)

pub invariant_of-self-2 : goal.invariant_of-self-2
invariant_of-self-2 g c =
    let inside = c.self.inside in
    let listed = slice_get_read inside.order.items (deque_len inside.order) c.args.index c.in_ok-place.place inside.order.ok.0 (c.in_ok-place.ensures.variant.0 refl) c.in_ok-place.ensures.value in
    let n = index_map_len c.swap_remove_index.new.self in
    let long : suc n ≡ length inside.slots.entries = omega (arith, c.in_ok-key.ensures.len) in
    let items = c.rename_last.ensures.items ∙ ap (map (renamed n c.in_ok-place.place)) c.in_ok-place.ensures.items in
    (λ q. ap (times q) items ∙ one_less n inside.order.items c.args.index c.in_ok-place.place (subst (λ (m : ℕ). IsOrderOf m inside.order.items) (sym long) c.self.invariant.0) listed q, c.swap_remove_index.ensures.unique)

pub returns-clause-entry : goal.returns-clause-entry
returns-clause-entry g c =
    let inside = c.self.inside in
    let listed = slice_get_read inside.order.items (deque_len inside.order) c.args.index c.in_ok-place.place inside.order.ok.0 (c.in_ok-place.ensures.variant.0 refl) c.in_ok-place.ensures.value in
    ap (option_map row_of) c.in_ok-key.ensures.entry
    ∙ sym (row_listed g.K.PartialEq.eq g.met.K.Eq.laws inside.slots.entries c.self.invariant.1 inside.order.items c.self.invariant.0 c.args.index c.in_ok-place.place listed)
    ∙ ap (λ t. slice_get t.entries c.args.index) c.self.view_is

pub returns-clause-entries : goal.returns-clause-entries
returns-clause-entries g c =
    let inside = c.self.inside in
    let listed = slice_get_read inside.order.items (deque_len inside.order) c.args.index c.in_ok-place.place inside.order.ok.0 (c.in_ok-place.ensures.variant.0 refl) c.in_ok-place.ensures.value in
    let n = index_map_len c.swap_remove_index.new.self in
    let long : suc n ≡ length inside.slots.entries = omega (arith, c.in_ok-key.ensures.len) in
    let items = c.rename_last.ensures.items ∙ ap (map (renamed n c.in_ok-place.place)) c.in_ok-place.ensures.items in
    ap (λ xs. rows_of xs c.rename_last.new.order.items) c.in_ok-key.ensures.entries
    ∙ ap (rows_of _) items
    ∙ removed g.K.PartialEq.eq g.met.K.Eq.laws inside.slots.entries c.self.invariant.1 inside.order.items c.self.invariant.0 c.args.index c.in_ok-place.place n (c.in_ok-key.key, c.in_ok-key.slot) long listed (sym c.in_ok-key.ensures.entry)
    ∙ ap (λ t. remove t.entries c.args.index) c.self.view_is

pub returns-clause-unique : goal.returns-clause-unique
returns-clause-unique g c =
    subst (λ t. IsDistinct g.K.PartialEq.eq (keys_of t.entries)) c.self.view_is (distinct g.K.PartialEq.eq g.met.K.Eq.laws c.self.inside.slots.entries c.self.invariant.1 c.self.inside.order.items c.self.invariant.0)
