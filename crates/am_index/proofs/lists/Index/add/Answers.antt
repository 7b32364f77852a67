use Rattle.std.proofs.Common.{◌++◌, ◌∷◌, [], cond, nat_eq, ℕ, List, sym, ap, subst, ◌∙◌}
use Rattle.am_index.specs.Lists.{listed_in, RoomIn}
use Rattle.am_index.proofs.EntryLemmas.{same_views, stood, changed}
use Rattle.am_index.proofs.lists.Index.add.Goals as goal

pub push_reserved-requires : goal.push_reserved-requires
push_reserved-requires c =
    subst RoomIn
    (sym (same_views (λ o. o) c.in-Some.ensures.lists c.args.number) ∙
    stood (λ o. o) c.place_of.new.self.lists c.in-Some.ensures.unique c.in-Some.place c.args.number
    c.index_mut.result.now c.in-Some.ensures.there c.index_mut.ensures.value)
    c.requires

pub returns-in-Some : goal.returns-in-Some
returns-in-Some c =
    let n = c.args.number in
    λ k.
    changed listed_in c.place_of.new.self.lists c.in-Some.ensures.unique c.in-Some.place n
    c.index_mut.result.now c.in-Some.ensures.there c.index_mut.ensures.value
    (λ (xs : List ℕ). xs ++ c.args.item ∷ []) c.push_reserved.new.self c.push_reserved.ensures.items k ∙
    ap (λ (xs : List ℕ). cond (nat_eq n k) (xs ++ c.args.item ∷ []) xs)
    (same_views listed_in c.in-Some.ensures.lists k)

pub returns-in_default : goal.returns-in_default
returns-in_default c =
    absurd
    (subst RoomIn
    (sym (same_views (λ o. o) c.in_default.ensures.lists c.args.number) ∙ c.in_default.ensures.none)
    c.requires)
