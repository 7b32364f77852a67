use Rattle.std.proofs.Common.{◌≡◌, nat_eq, ℕ, Some, refl, sym, subst, ◌∙◌, rules}
use Rattle.std.specs.Prelude.{if◌then◌else◌}
use Rattle.std.proofs.lemmas.Bool.{eq-eqb}
use Rattle.am_index.specs.Lists.{listed_in, RoomIn}
use Rattle.am_index.proofs.EntryLemmas.{same_views, kept, changed}
use Rattle.am_index.proofs.lists.Index.make_room.Goals as goal

pub returns-in_err-reserve-clause-same : goal.returns-in_err-reserve-clause-same
returns-in_err-reserve-clause-same c =
    λ k.
    kept listed_in c.place_of.new.self.lists c.in-Some.ensures.unique c.in-Some.place c.args.number
    c.index_mut.result.now c.in-Some.ensures.there c.index_mut.ensures.value c.reserve.new.self
    c.reserve.ensures.items k ∙
    same_views listed_in c.in-Some.ensures.lists k

pub returns-clause-same : goal.returns-clause-same
returns-clause-same c =
    λ k.
    kept listed_in c.place_of.new.self.lists c.in-Some.ensures.unique c.in-Some.place c.args.number
    c.index_mut.result.now c.in-Some.ensures.there c.index_mut.ensures.value c.reserve.new.self
    c.reserve.ensures.items k ∙
    same_views listed_in c.in-Some.ensures.lists k

pub returns-clause-ok : goal.returns-clause-ok
returns-clause-ok c =
    let n = c.args.number in
    let list = c.reserve.new.self in
    subst RoomIn
    (sym (changed (λ o. o) c.place_of.new.self.lists c.in-Some.ensures.unique c.in-Some.place n
    c.index_mut.result.now c.in-Some.ensures.there c.index_mut.ensures.value (λ o. Some list) list refl n ∙
    own n _ _))
    (search rules)
  where
    own : {X : Type 0} (n : ℕ) (a b : X) → (if nat_eq n n then a else b) ≡ a
    own n a b = rw (eq-eqb n n refl) refl
