use Rattle.std.proofs.Common.{◌≡◌, ◌≤◌, ◌<◌, ◌⊎◌, inl, inr, ℕ, map, sym, ap, subst, ◌∙◌, arith, Some}
use Rattle.std.proofs.lemmas.Bool.{cases_lt, false≢true}
use Rattle.std.proofs.lemmas.Option.{slice_get_within}
use Rattle.indexmap.specs.IndexMap.{index_map_len}
use Rattle.am_ordered.specs.{times, renamed}
use Rattle.am_ordered.proofs.OrderLemmas.{renamed_alike, renamed_none, renamed_one}
use Rattle.am_ordered.proofs.order.rename_last.Goals as goal

pub returns-in_default-clause-items : goal.returns-in_default-clause-items
returns-in_default-clause-items g c =
    by (cases_lt c.args.place (index_map_len c.args.slots.now))
  where
    by : (c.args.place < index_map_len c.args.slots.now) ⊎ (index_map_len c.args.slots.now ≤ c.args.place) → c.args.order.now.items ≡ map (renamed (index_map_len c.args.slots.now) c.args.place) c.args.order.now.items
    by (inl l) = absurd (false≢true (c.in_default.ensures.found.1 l))
    by (inr l) =
        let last : index_map_len c.args.slots.now ≡ c.args.place = omega (arith, c.requires.within) in
        rw last (sym (renamed_alike c.args.place c.args.order.now.items))

pub index_mut-requires : goal.index_mut-requires
index_mut-requires g c =
    let within = slice_get_within c.args.order.now.items c.in-Some-index_in_order.at c.len-last.result c.in-Some-index_in_order.ensures in
    omega (arith, c.args.order.now.ok.0)

pub returns-in-Some-index_in_order-clause-items : goal.returns-in-Some-index_in_order-clause-items
returns-in-Some-index_in_order-clause-items g c = renamed_one (index_map_len c.args.slots.now) c.args.place c.args.order.now.items c.in-Some-index_in_order.at (c.in-Some-index_in_order.ensures ∙ ap Some c.len-last.ensures.len) c.requires.once

pub returns-in_default-index_in_order-clause-items : goal.returns-in_default-index_in_order-clause-items
returns-in_default-index_in_order-clause-items g c =
    let none = c.in_default-index_in_order.ensures in
    sym (renamed_none (index_map_len c.args.slots.now) c.args.place c.args.order.now.items (subst (λ (n : ℕ). times n c.args.order.now.items ≡ 0) c.len-last.ensures.len none))
