use Rattle.std.proofs.Common.{◌≡◌, cond, nat_eq, ℕ, List, [], sym, ap, subst, ◌∙◌}
use Rattle.std.specs.List.Sorted.{IsStrictlyIncreasing}
use Rattle.am_mount.specs.{but, mounts_in}
use Rattle.am_mount.specs.Index.{listed_in}
use Rattle.am_index.proofs.EntryLemmas.{same_views, stood, none_in, changed, tidied}
use Rattle.am_mount.proofs.index.Index.remove.Goals as goal

pub take_out-requires : goal.take_out-requires
take_out-requires c =
    subst (λ (xs : List ℕ). IsStrictlyIncreasing xs)
    (sym (same_views listed_in c.in-Some.ensures.lists c.args.number) ∙
    stood listed_in c.place_of.new.self.lists c.in-Some.ensures.unique c.in-Some.place c.args.number
    c.index_mut-list.result.now c.in-Some.ensures.there c.index_mut-list.ensures.value)
    c.requires

pub returns-then-is_empty : goal.returns-then-is_empty
returns-then-is_empty c =
    let lists = c.place_of.new.self.lists in
    let place = c.in-Some.place in
    let n = c.args.number in
    let list = c.index_mut-list.result.now in
    let left = c.take_out.new.self in
    let none : mounts_in left ≡ [] =
    sym c.as_slice.ensures ∙
    none_in c.as_slice.result.now (sym c.is_empty.ensures ∙ c.if-is_empty.true) in
    λ k.
    tidied listed_in lists c.in-Some.ensures.unique place n list c.in-Some.ensures.there
    c.index_mut-list.ensures.value left none c.swap_remove_index-gone.result
    c.swap_remove_index-gone.new.self c.swap_remove_index-gone.ensures.entry
    c.swap_remove_index-gone.ensures.updates k ∙
    changed listed_in lists c.in-Some.ensures.unique place n list c.in-Some.ensures.there
    c.index_mut-list.ensures.value (but c.args.mount) left c.take_out.ensures k ∙
    ap (λ (xs : List ℕ). cond (nat_eq n k) (but c.args.mount xs) xs)
    (same_views listed_in c.in-Some.ensures.lists k)

pub returns-else-is_empty : goal.returns-else-is_empty
returns-else-is_empty c =
    let n = c.args.number in
    λ k.
    changed listed_in c.place_of.new.self.lists c.in-Some.ensures.unique c.in-Some.place n
    c.index_mut-list.result.now c.in-Some.ensures.there c.index_mut-list.ensures.value
    (but c.args.mount) c.take_out.new.self c.take_out.ensures k ∙
    ap (λ (xs : List ℕ). cond (nat_eq n k) (but c.args.mount xs) xs)
    (same_views listed_in c.in-Some.ensures.lists k)
